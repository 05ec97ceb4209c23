-- A small signature and theory, and frames over them. Its text is
--   free a, b.  fun senc/2.  reduc sdec(senc(x,y),y) -> x.
use Rattle.std.specs.Prelude.{List, [], ◌∷◌, codes, false}
use Rattle.dps_terms.specs.declared.Sym.{Sym}
use Rattle.dps_signature.specs.declared.SymKind.TheVariants.{Constructor, Destructor}
use Rattle.dps_terms.specs.declared.PublicName.TheVariants.{Declared}
use Rattle.dps_terms.specs.Tree.{public, private, var, ax, rigid, Tree, leaf, app, none, more}
use Rattle.dps_signature.specs.Signature.{Signature, shapes}
use Rattle.dps_theory.specs.Theory.{Rule, Theory}
use Rattle.dps_theory.specs.declared.examples.RuleList.{RuleList}
use Rattle.dps_theory.specs.declared.examples.RuleList.TheVariants.{Decryption, Overlap, TwoRules, GroundRight, LargerRight, ConstructorRoot, RootArity, InnerDestructor, RightDestructor}
use Rattle.dps_theory.specs.declared.examples.Computation.{Computation}
use Rattle.dps_theory.specs.declared.examples.Computation.TheVariants.{RightKey, WrongKey, NoCiphertext, BelowConstructor, NestedKey, SecondRule, RigidName, Handle, Variable}
use Rattle.dps_theory.specs.declared.examples.Name.{Name}
use Rattle.dps_theory.specs.declared.examples.Name.TheVariants.{A, B, Rigid}
use Rattle.dps_theory.specs.declared.examples.FramePair.{FramePair}
use Rattle.dps_theory.specs.declared.examples.FramePair.TheVariants.{Repetition, KeptKey, ToldKey, Ciphertext, OneMore}

abbrev pub senc : Sym
senc = record { number = 0 }

abbrev pub sdec : Sym
sdec = record { number = 1 }

abbrev pub signature : Signature
signature = record {
  symbols = record { name = codes "senc"; kind = Constructor; arity = 2 } ∷ record { name = codes "sdec"; kind = Destructor; arity = 2 } ∷ [];
  names = record { name = codes "a"; is_private = false } ∷ record { name = codes "b"; is_private = false } ∷ [];
}

-- the symbol over two arguments
abbrev pub over : Sym → Tree → Tree → Tree
over f t u = app f (more t (more u none))

abbrev pub x : Tree
x = leaf (var 1)

abbrev pub y : Tree
y = leaf (var 2)

-- `sdec(senc(x,y),y) -> x`
abbrev pub decryption : Rule
decryption = record { left = over sdec (over senc x y) y; right = x }

abbrev pub theory : Theory
theory = record { shapes = shapes signature; rules = decryption ∷ [] }

-- the public names a and b, and three private names
abbrev pub a : Tree
a = leaf (public (Declared 0))

abbrev pub b : Tree
b = leaf (public (Declared 1))

abbrev pub k : Tree
k = leaf (private 0)

abbrev pub n : Tree
n = leaf (private 1)

abbrev pub m : Tree
m = leaf (private 2)

-- Rules that overlap with different results: `sdec(x,y) -> x` and `sdec(a,y) -> b`.
abbrev pub overlapping : Theory
overlapping = record {
  shapes = shapes signature;
  rules = record { left = over sdec x y; right = x } ∷ record { left = over sdec a y; right = b } ∷ [];
}

-- one rule
abbrev pub alone : Tree → Tree → Theory
alone left right = record { shapes = shapes signature; rules = record { left = left; right = right } ∷ [] }

-- `sdec(senc(x,y),y) -> x` and `sdec(a,y) -> b`: no term is an instance of both left sides
abbrev pub two_rules : Theory
two_rules = record { shapes = shapes signature; rules = decryption ∷ record { left = over sdec a y; right = b } ∷ [] }

abbrev pub rules_of : RuleList → Theory
rules_of Decryption = theory
rules_of Overlap = overlapping
rules_of TwoRules = two_rules
rules_of GroundRight = alone (over sdec x y) a
rules_of LargerRight = alone (over sdec x y) (over senc x y)
rules_of ConstructorRoot = alone (over senc x y) x
rules_of RootArity = alone (app sdec (more x none)) x
rules_of InnerDestructor = alone (over sdec (over sdec x y) y) x
rules_of RightDestructor = alone (over sdec x y) (over sdec a b)

abbrev pub computed_under : Computation → Theory
computed_under SecondRule = two_rules
computed_under computation = theory

abbrev pub r : Tree
r = leaf (rigid 0)

abbrev pub term_of : Computation → Tree
term_of RightKey = over sdec (over senc a b) b
term_of WrongKey = over sdec (over senc a b) a
term_of NoCiphertext = over sdec a b
term_of BelowConstructor = over senc (over sdec a b) b
term_of NestedKey = over sdec (over senc a (over sdec (over senc b a) a)) b
term_of SecondRule = over sdec a b
term_of RigidName = r
term_of Handle = leaf (ax 1)
term_of Variable = x

abbrev pub value_of : Name → Tree
value_of A = a
value_of B = b
value_of Rigid = r

-- a name under a key that is kept, and under one that is told afterwards
abbrev pub kept_key : Tree → List Tree
kept_key t = over senc t k ∷ []

abbrev pub told_key : Tree → List Tree
told_key t = over senc t k ∷ k ∷ []

abbrev pub first_of : FramePair → List Tree
first_of Repetition = k ∷ k ∷ []
first_of KeptKey = kept_key a
first_of ToldKey = told_key a
first_of Ciphertext = told_key n
first_of OneMore = []

abbrev pub second_of : FramePair → List Tree
second_of Repetition = k ∷ n ∷ []
second_of KeptKey = kept_key b
second_of ToldKey = told_key b
second_of Ciphertext = m ∷ k ∷ []
second_of OneMore = k ∷ []
