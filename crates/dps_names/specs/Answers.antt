-- What a file is answered.
use Rattle.std.specs.Prelude.{◌≡◌, ⊤, List}
use Rattle.dps_syntax.specs.declared.tree.Decl.{Decl}
use Rattle.dps_scopes.specs.declared.fault.NameRefusal.{NameRefusal}
use Rattle.dps_scopes.specs.declared.fault.NameRefusal.TheVariants.{Fault, Memory}
use Rattle.dps_scopes.specs.Outcome.{done, faulty}
use Rattle.dps_names.specs.Program.{Program}
use Rattle.dps_names.specs.Declarations.{names_of}

-- the declarations say this program
abbrev pub IsProgram : List Decl → Program → Type 0
IsProgram decls program = names_of decls ≡ done tt program

-- the declarations are refused by the first fault of their names, or out of memory
abbrev pub IsRefused : List Decl → NameRefusal → Type 0
IsRefused decls (Fault fault) = names_of decls ≡ faulty fault
IsRefused decls Memory = ⊤
