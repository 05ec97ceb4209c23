-- How a proof stores signatures, and the kinds and arities of symbols: as pairs and lists.
use Rattle.std.specs.Prelude.{◌≡◌, ℕ, Bool, true, false, List, refl}
use Rattle.std.specs.Coded.{Coded, code_by, coded×, coded_list, coded_ℕ, coded_bool}
use Rattle.dps_signature.specs.declared.SymKind.{SymKind}
use Rattle.dps_signature.specs.declared.SymKind.TheVariants.{Constructor, Destructor}
use Rattle.dps_signature.specs.Signature.{Shape, Symbol, Name, Signature}

abbrev pub builds : SymKind → Bool
builds Constructor = true
builds Destructor = false

abbrev pub kind_of : Bool → SymKind
kind_of true = Constructor
kind_of false = Destructor

pub kind_of-builds : (kind : SymKind) → kind_of (builds kind) ≡ kind
kind_of-builds Constructor = refl
kind_of-builds Destructor = refl

abbrev pub kind_code : Coded SymKind
kind_code = code_by Bool coded_bool builds kind_of kind_of-builds

abbrev pub shape_code : Coded Shape
shape_code =
    code_by (SymKind × ℕ) (coded× kind_code coded_ℕ) (λ s. (s.kind, s.arity)) (λ p. record { kind = p.0; arity = p.1 }) (λ _. refl)

abbrev pub symbol_code : Coded Symbol
symbol_code =
    code_by
    (List ℕ × (SymKind × ℕ))
    (coded× (coded_list coded_ℕ) (coded× kind_code coded_ℕ))
    (λ s. (s.name, (s.kind, s.arity)))
    (λ p. record { name = p.0; kind = p.1.0; arity = p.1.1 })
    (λ _. refl)

abbrev pub name_code : Coded Name
name_code =
    code_by (List ℕ × Bool) (coded× (coded_list coded_ℕ) coded_bool) (λ n. (n.name, n.is_private)) (λ p. record { name = p.0; is_private = p.1 }) (λ _. refl)

abbrev pub signature_code : Coded Signature
signature_code =
    code_by
    (List Symbol × List Name)
    (coded× (coded_list symbol_code) (coded_list name_code))
    (λ s. (s.symbols, s.names))
    (λ p. record { symbols = p.0; names = p.1 })
    (λ _. refl)
