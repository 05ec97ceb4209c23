-- Parts that have no shape of a declaration say nothing.
use Rattle.std.proofs.Common.{◌≡◌, refl, sym, ap, ◌∙◌, subst}
use Rattle.dps_syntax.specs.declared.grammar.Production.{Production}
use Rattle.dps_syntax.specs.Tree.{Lexeme, Parts, none, token, inner}
use Rattle.dps_names.specs.Declarations.{names, define, query}
use Rattle.dps_names.specs.Shapes.{HasNoToken, HasNoInner, IsLed}
use Rattle.dps_names.specs.DeclarationShapes.{AreNames, AreNoNames, IsFunction, IsNoFunction, IsDefinition, IsNoDefinition, HasBody, HasNoBody, IsQuery, IsNoQuery}

names_case0 : (ps : Parts) → HasNoToken ps → AreNoNames ps
names_case0 none h = record { says = λ program. refl }
names_case0 (token l ps) h = absurd h
names_case0 (inner p i ps) h = record { says = λ program. refl }

pub names_ends0 : (P0 : Parts) → HasNoToken P0 → AreNoNames P0
names_ends0 P0 h = names_case0 P0 h

names_case1 : (l0 : Lexeme) (ps : Parts) → HasNoInner ps → AreNoNames (token l0 ps)
names_case1 l0 none h = record { says = λ program. refl }
names_case1 l0 (token l ps) h = record { says = λ program. refl }
names_case1 l0 (inner p i ps) h = absurd h

pub names_ends1 : (P0 P1 : Parts) (l0 : Lexeme) → P0 ≡ token l0 P1 → HasNoInner P1 → AreNoNames P0
names_ends1 P0 P1 l0 e0 h = subst AreNoNames (sym (e0)) (names_case1 l0 P1 h)

pub names_stands : (P0 P1 P2 : Parts) (l0 : Lexeme) (i1 : Parts) → P0 ≡ token l0 P1 → IsLed P1 i1 P2 → AreNames P0 i1 P2
names_stands P0 P1 P2 l0 i1 e0 e1 = record { says = λ program. ap (λ x. names x program) (e0 ∙ (ap (λ x. (token l0 x)) e1.split)) }

pub ruleset for_names = (names_ends0, names_ends1, names_stands)

functions_case0 : (ps : Parts) → HasNoToken ps → IsNoFunction ps
functions_case0 none h = record { says = λ program. refl }
functions_case0 (token l ps) h = absurd h
functions_case0 (inner p i ps) h = record { says = λ program. refl }

pub functions_ends0 : (P0 : Parts) → HasNoToken P0 → IsNoFunction P0
functions_ends0 P0 h = functions_case0 P0 h

functions_case1 : (l0 : Lexeme) (ps : Parts) → HasNoToken ps → IsNoFunction (token l0 ps)
functions_case1 l0 none h = record { says = λ program. refl }
functions_case1 l0 (token l ps) h = absurd h
functions_case1 l0 (inner p i ps) h = record { says = λ program. refl }

pub functions_ends1 : (P0 P1 : Parts) (l0 : Lexeme) → P0 ≡ token l0 P1 → HasNoToken P1 → IsNoFunction P0
functions_ends1 P0 P1 l0 e0 h = subst IsNoFunction (sym (e0)) (functions_case1 l0 P1 h)

functions_case2 : (l0 : Lexeme) (l1 : Lexeme) (ps : Parts) → HasNoToken ps → IsNoFunction (token l0 (token l1 ps))
functions_case2 l0 l1 none h = record { says = λ program. refl }
functions_case2 l0 l1 (token l ps) h = absurd h
functions_case2 l0 l1 (inner p i ps) h = record { says = λ program. refl }

pub functions_ends2 : (P0 P1 P2 : Parts) (l0 : Lexeme) (l1 : Lexeme) → P0 ≡ token l0 P1 → P1 ≡ token l1 P2 → HasNoToken P2 → IsNoFunction P0
functions_ends2 P0 P1 P2 l0 l1 e0 e1 h = subst IsNoFunction (sym (e0 ∙ (ap (λ x. (token l0 x)) e1))) (functions_case2 l0 l1 P2 h)

functions_case3 : (l0 : Lexeme) (l1 : Lexeme) (l2 : Lexeme) (ps : Parts) → HasNoToken ps → IsNoFunction (token l0 (token l1 (token l2 ps)))
functions_case3 l0 l1 l2 none h = record { says = λ program. refl }
functions_case3 l0 l1 l2 (token l ps) h = absurd h
functions_case3 l0 l1 l2 (inner p i ps) h = record { says = λ program. refl }

pub functions_ends3 : (P0 P1 P2 P3 : Parts) (l0 : Lexeme) (l1 : Lexeme) (l2 : Lexeme) → P0 ≡ token l0 P1 → P1 ≡ token l1 P2 → P2 ≡ token l2 P3 → HasNoToken P3 → IsNoFunction P0
functions_ends3 P0 P1 P2 P3 l0 l1 l2 e0 e1 e2 h = subst IsNoFunction (sym (e0 ∙ (ap (λ x. (token l0 x)) e1 ∙ (ap (λ x. (token l0 (token l1 x))) e2)))) (functions_case3 l0 l1 l2 P3 h)

pub functions_stands :
    (P0 P1 P2 P3 P4 : Parts) (l0 : Lexeme) (l1 : Lexeme) (l2 : Lexeme) (l3 : Lexeme) → P0 ≡ token l0 P1 → P1 ≡ token l1 P2 → P2 ≡ token l2 P3
    → P3 ≡ token l3 P4 → IsFunction P0 l1 l3 P4
functions_stands P0 P1 P2 P3 P4 l0 l1 l2 l3 e0 e1 e2 e3 =
    record { word = l0; slash = l2; split = e0 ∙ (ap (λ x. (token l0 x)) e1 ∙ (ap (λ x. (token l0 (token l1 x))) e2 ∙ (ap (λ x. (token l0 (token l1 (token l2 x)))) e3))) }

pub ruleset for_functions = (functions_ends0, functions_ends1, functions_ends2, functions_ends3, functions_stands)

body_case0 : (ps : Parts) → HasNoToken ps → HasNoBody ps
body_case0 none h = record { says = λ word name equals p inside program. refl }
body_case0 (token l ps) h = absurd h
body_case0 (inner p i ps) h = record { says = λ word name equals p inside program. refl }

pub body_ends0 : (P0 : Parts) → HasNoToken P0 → HasNoBody P0
body_ends0 P0 h = body_case0 P0 h

body_case1 : (l0 : Lexeme) (ps : Parts) → HasNoToken ps → HasNoBody (token l0 ps)
body_case1 l0 none h = record { says = λ word name equals p inside program. refl }
body_case1 l0 (token l ps) h = absurd h
body_case1 l0 (inner p i ps) h = record { says = λ word name equals p inside program. refl }

pub body_ends1 : (P0 P1 : Parts) (l0 : Lexeme) → P0 ≡ token l0 P1 → HasNoToken P1 → HasNoBody P0
body_ends1 P0 P1 l0 e0 h = subst HasNoBody (sym (e0)) (body_case1 l0 P1 h)

body_case2 : (l0 : Lexeme) (l1 : Lexeme) (ps : Parts) → HasNoInner ps → HasNoBody (token l0 (token l1 ps))
body_case2 l0 l1 none h = record { says = λ word name equals p inside program. refl }
body_case2 l0 l1 (token l ps) h = record { says = λ word name equals p inside program. refl }
body_case2 l0 l1 (inner p i ps) h = absurd h

pub body_ends2 : (P0 P1 P2 : Parts) (l0 : Lexeme) (l1 : Lexeme) → P0 ≡ token l0 P1 → P1 ≡ token l1 P2 → HasNoInner P2 → HasNoBody P0
body_ends2 P0 P1 P2 l0 l1 e0 e1 h = subst HasNoBody (sym (e0 ∙ (ap (λ x. (token l0 x)) e1))) (body_case2 l0 l1 P2 h)

pub body_stands : (P0 P1 P2 P3 : Parts) (l0 : Lexeme) (l1 : Lexeme) (i2 : Parts) → P0 ≡ token l0 P1 → P1 ≡ token l1 P2 → IsLed P2 i2 P3 → HasBody P0 i2
body_stands P0 P1 P2 P3 l0 l1 i2 e0 e1 e2 = record { close = l0; equals = l1; p = e2.p; behind = P3; split = e0 ∙ (ap (λ x. (token l0 x)) e1 ∙ (ap (λ x. (token l0 (token l1 x))) e2.split)) }

pub ruleset for_bodies = (body_ends0, body_ends1, body_ends2, body_stands)

definition_case0 : (ps : Parts) → HasNoToken ps → IsNoDefinition ps
definition_case0 none h = record { says = λ program. refl }
definition_case0 (token l ps) h = absurd h
definition_case0 (inner p i ps) h = record { says = λ program. refl }

pub definition_ends0 : (P0 : Parts) → HasNoToken P0 → IsNoDefinition P0
definition_ends0 P0 h = definition_case0 P0 h

definition_case1 : (l0 : Lexeme) (ps : Parts) → HasNoToken ps → IsNoDefinition (token l0 ps)
definition_case1 l0 none h = record { says = λ program. refl }
definition_case1 l0 (token l ps) h = absurd h
definition_case1 l0 (inner p i ps) h = record { says = λ program. refl }

pub definition_ends1 : (P0 P1 : Parts) (l0 : Lexeme) → P0 ≡ token l0 P1 → HasNoToken P1 → IsNoDefinition P0
definition_ends1 P0 P1 l0 e0 h = subst IsNoDefinition (sym (e0)) (definition_case1 l0 P1 h)

definition_case2 : (l0 : Lexeme) (l1 : Lexeme) (ps : Parts) → HasNoToken ps → IsNoDefinition (token l0 (token l1 ps))
definition_case2 l0 l1 none h = record { says = λ program. refl }
definition_case2 l0 l1 (token l ps) h = absurd h
definition_case2 l0 l1 (inner p i ps) h = record { says = λ program. refl }

pub definition_ends2 : (P0 P1 P2 : Parts) (l0 : Lexeme) (l1 : Lexeme) → P0 ≡ token l0 P1 → P1 ≡ token l1 P2 → HasNoToken P2 → IsNoDefinition P0
definition_ends2 P0 P1 P2 l0 l1 e0 e1 h = subst IsNoDefinition (sym (e0 ∙ (ap (λ x. (token l0 x)) e1))) (definition_case2 l0 l1 P2 h)

definition_case3 : (l0 : Lexeme) (l1 : Lexeme) (l2 : Lexeme) (ps : Parts) → HasNoInner ps → IsNoDefinition (token l0 (token l1 (token l2 ps)))
definition_case3 l0 l1 l2 none h = record { says = λ program. refl }
definition_case3 l0 l1 l2 (token l ps) h = record { says = λ program. refl }
definition_case3 l0 l1 l2 (inner p i ps) h = absurd h

pub definition_ends3 : (P0 P1 P2 P3 : Parts) (l0 : Lexeme) (l1 : Lexeme) (l2 : Lexeme) → P0 ≡ token l0 P1 → P1 ≡ token l1 P2 → P2 ≡ token l2 P3 → HasNoInner P3 → IsNoDefinition P0
definition_ends3 P0 P1 P2 P3 l0 l1 l2 e0 e1 e2 h = subst IsNoDefinition (sym (e0 ∙ (ap (λ x. (token l0 x)) e1 ∙ (ap (λ x. (token l0 (token l1 x))) e2)))) (definition_case3 l0 l1 l2 P3 h)

pub definition_with :
    (P0 P1 P2 P3 P4 : Parts) (l0 : Lexeme) (l1 : Lexeme) (l2 : Lexeme) (i3 : Parts) (body : Parts) → P0 ≡ token l0 P1 → P1 ≡ token l1 P2
    → P2 ≡ token l2 P3 → IsLed P3 i3 P4 → HasBody P4 body → IsDefinition P0 l1 i3 body
definition_with P0 P1 P2 P3 P4 l0 l1 l2 i3 body e0 e1 e2 e3 b =
    record {
      says = λ program. ap (λ x. define x program)
          (e0 ∙ (ap (λ x. (token l0 x)) e1 ∙ (ap (λ x. (token l0 (token l1 x))) e2 ∙ (ap (λ x. (token l0 (token l1 (token l2 x)))) e3.split))) ∙ ap
          (λ x. token l0 (token l1 (token l2 (inner e3.p i3 x)))) b.split);
    }

pub definition_without :
    (P0 P1 P2 P3 P4 : Parts) (l0 : Lexeme) (l1 : Lexeme) (l2 : Lexeme) (i3 : Parts) → P0 ≡ token l0 P1 → P1 ≡ token l1 P2 → P2 ≡ token l2 P3
    → IsLed P3 i3 P4 → HasNoBody P4 → IsDefinition P0 l1 none i3
definition_without P0 P1 P2 P3 P4 l0 l1 l2 i3 e0 e1 e2 e3 b =
    record {
      says = λ program. ap (λ x. define x program) (e0 ∙ (ap (λ x. (token l0 x)) e1 ∙ (ap (λ x. (token l0 (token l1 x))) e2 ∙ (ap (λ x. (token l0 (token l1 (token l2 x)))) e3.split)))) ∙
          b.says l0 l1 l2 e3.p i3 program;
    }

pub ruleset for_definitions = (definition_ends0, definition_ends1, definition_ends2, definition_ends3, definition_with, definition_without)

query_case0 : (ps : Parts) → HasNoToken ps → IsNoQuery ps
query_case0 none h = record { says = λ program. refl }
query_case0 (token l ps) h = absurd h
query_case0 (inner p i ps) h = record { says = λ program. refl }

pub query_ends0 : (P0 : Parts) → HasNoToken P0 → IsNoQuery P0
query_ends0 P0 h = query_case0 P0 h

query_case1 : (l0 : Lexeme) (ps : Parts) → HasNoToken ps → IsNoQuery (token l0 ps)
query_case1 l0 none h = record { says = λ program. refl }
query_case1 l0 (token l ps) h = absurd h
query_case1 l0 (inner p i ps) h = record { says = λ program. refl }

pub query_ends1 : (P0 P1 : Parts) (l0 : Lexeme) → P0 ≡ token l0 P1 → HasNoToken P1 → IsNoQuery P0
query_ends1 P0 P1 l0 e0 h = subst IsNoQuery (sym (e0)) (query_case1 l0 P1 h)

query_case2 : (l0 : Lexeme) (l1 : Lexeme) (ps : Parts) → HasNoToken ps → IsNoQuery (token l0 (token l1 ps))
query_case2 l0 l1 none h = record { says = λ program. refl }
query_case2 l0 l1 (token l ps) h = absurd h
query_case2 l0 l1 (inner p i ps) h = record { says = λ program. refl }

pub query_ends2 : (P0 P1 P2 : Parts) (l0 : Lexeme) (l1 : Lexeme) → P0 ≡ token l0 P1 → P1 ≡ token l1 P2 → HasNoToken P2 → IsNoQuery P0
query_ends2 P0 P1 P2 l0 l1 e0 e1 h = subst IsNoQuery (sym (e0 ∙ (ap (λ x. (token l0 x)) e1))) (query_case2 l0 l1 P2 h)

query_case3 : (l0 : Lexeme) (l1 : Lexeme) (l2 : Lexeme) (ps : Parts) → HasNoInner ps → IsNoQuery (token l0 (token l1 (token l2 ps)))
query_case3 l0 l1 l2 none h = record { says = λ program. refl }
query_case3 l0 l1 l2 (token l ps) h = record { says = λ program. refl }
query_case3 l0 l1 l2 (inner p i ps) h = absurd h

pub query_ends3 : (P0 P1 P2 P3 : Parts) (l0 : Lexeme) (l1 : Lexeme) (l2 : Lexeme) → P0 ≡ token l0 P1 → P1 ≡ token l1 P2 → P2 ≡ token l2 P3 → HasNoInner P3 → IsNoQuery P0
query_ends3 P0 P1 P2 P3 l0 l1 l2 e0 e1 e2 h = subst IsNoQuery (sym (e0 ∙ (ap (λ x. (token l0 x)) e1 ∙ (ap (λ x. (token l0 (token l1 x))) e2)))) (query_case3 l0 l1 l2 P3 h)

query_case4 : (l0 : Lexeme) (l1 : Lexeme) (l2 : Lexeme) (p3 : Production) (i3 : Parts) (ps : Parts) → HasNoToken ps → IsNoQuery (token l0 (token l1 (token l2 (inner p3 i3 ps))))
query_case4 l0 l1 l2 p3 i3 none h = record { says = λ program. refl }
query_case4 l0 l1 l2 p3 i3 (token l ps) h = absurd h
query_case4 l0 l1 l2 p3 i3 (inner p i ps) h = record { says = λ program. refl }

pub query_ends4 :
    (P0 P1 P2 P3 P4 : Parts) (l0 : Lexeme) (l1 : Lexeme) (l2 : Lexeme) (i3 : Parts) → P0 ≡ token l0 P1 → P1 ≡ token l1 P2 → P2 ≡ token l2 P3
    → IsLed P3 i3 P4 → HasNoToken P4 → IsNoQuery P0
query_ends4 P0 P1 P2 P3 P4 l0 l1 l2 i3 e0 e1 e2 e3 h =
    subst IsNoQuery (sym (e0 ∙ (ap (λ x. (token l0 x)) e1 ∙ (ap (λ x. (token l0 (token l1 x))) e2 ∙ (ap (λ x. (token l0 (token l1 (token l2 x)))) e3.split))))) (query_case4 l0 l1 l2 e3.p i3 P4 h)

query_case5 :
    (l0 : Lexeme) (l1 : Lexeme) (l2 : Lexeme) (p3 : Production) (i3 : Parts) (l4 : Lexeme) (ps : Parts) → HasNoInner ps
    → IsNoQuery (token l0 (token l1 (token l2 (inner p3 i3 (token l4 ps)))))
query_case5 l0 l1 l2 p3 i3 l4 none h = record { says = λ program. refl }
query_case5 l0 l1 l2 p3 i3 l4 (token l ps) h = record { says = λ program. refl }
query_case5 l0 l1 l2 p3 i3 l4 (inner p i ps) h = absurd h

pub query_ends5 :
    (P0 P1 P2 P3 P4 P5 : Parts) (l0 : Lexeme) (l1 : Lexeme) (l2 : Lexeme) (i3 : Parts) (l4 : Lexeme) → P0 ≡ token l0 P1 → P1 ≡ token l1 P2
    → P2 ≡ token l2 P3 → IsLed P3 i3 P4 → P4 ≡ token l4 P5 → HasNoInner P5 → IsNoQuery P0
query_ends5 P0 P1 P2 P3 P4 P5 l0 l1 l2 i3 l4 e0 e1 e2 e3 e4 h =
    subst IsNoQuery (sym (e0 ∙
    (ap (λ x. (token l0 x)) e1 ∙
    (ap (λ x. (token l0 (token l1 x))) e2 ∙ (ap (λ x. (token l0 (token l1 (token l2 x)))) e3.split ∙ (ap (λ x. (token l0 (token l1 (token l2 (inner e3.p i3 x))))) e4))))))
    (query_case5 l0 l1 l2 e3.p i3 l4 P5 h)

pub query_stands :
    (P0 P1 P2 P3 P4 P5 P6 : Parts) (l0 : Lexeme) (l1 : Lexeme) (l2 : Lexeme) (i3 : Parts) (l4 : Lexeme) (i5 : Parts) → P0 ≡ token l0 P1
    → P1 ≡ token l1 P2 → P2 ≡ token l2 P3 → IsLed P3 i3 P4 → P4 ≡ token l4 P5 → IsLed P5 i5 P6 → IsQuery P0 i3 i5
query_stands P0 P1 P2 P3 P4 P5 P6 l0 l1 l2 i3 l4 i5 e0 e1 e2 e3 e4 e5 =
    record {
      says = λ program. ap (λ x. query x program)
          (e0 ∙ (ap (λ x. (token l0 x)) e1 ∙
          (ap (λ x. (token l0 (token l1 x))) e2 ∙
          (ap (λ x. (token l0 (token l1 (token l2 x)))) e3.split ∙
          (ap (λ x. (token l0 (token l1 (token l2 (inner e3.p i3 x))))) e4 ∙ (ap (λ x. (token l0 (token l1 (token l2 (inner e3.p i3 (token l4 x)))))) e5.split))))));
    }

pub ruleset for_queries = (query_ends0, query_ends1, query_ends2, query_ends3, query_ends4, query_ends5, query_stands)
