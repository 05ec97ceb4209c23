-- Parts that have no shape of a process say nothing.
use Rattle.std.proofs.Common.{◌≡◌, refl, sym, ap, ◌∙◌, subst}
use Rattle.dps_syntax.specs.declared.grammar.Production.{Production}
use Rattle.dps_syntax.specs.Tree.{Lexeme, Parts, none, token, inner}
use Rattle.dps_names.specs.Shapes.{HasNoToken, HasNoInner, IsLed, IsEnded, IsContinued, IsNotPrefixed, IsPrefixed, IsNoExchange, IsExchange, IsNoComparison, IsComparison}

continuation_case0 : (P : Parts) → HasNoToken P → IsEnded P
continuation_case0 none h = record { continues = λ definitions scope s. refl }
continuation_case0 (token l ps) h = absurd h
continuation_case0 (inner p i ps) h = record { continues = λ definitions scope s. refl }

pub continuation_ends0 : (P0 : Parts) → HasNoToken P0 → IsEnded P0
continuation_ends0 P0 h = continuation_case0 P0 h

continuation_case1 : (l0 : Lexeme) (P : Parts) → HasNoInner P → IsEnded (token l0 P)
continuation_case1 l0 none h = record { continues = λ definitions scope s. refl }
continuation_case1 l0 (token l ps) h = record { continues = λ definitions scope s. refl }
continuation_case1 l0 (inner p i ps) h = absurd h

pub continuation_ends1 : (P0 P1 : Parts) (l0 : Lexeme) → P0 ≡ token l0 P1 → HasNoInner P1 → IsEnded P0
continuation_ends1 P0 P1 l0 e0 h = subst IsEnded (sym (e0)) (continuation_case1 l0 P1 h)

pub continuation_stands : (P0 P1 P2 : Parts) (l0 : Lexeme) (i1 : Parts) → P0 ≡ token l0 P1 → IsLed P1 i1 P2 → IsContinued P0 i1
continuation_stands P0 P1 P2 l0 i1 e0 e1 = record { sign = l0; p = e1.p; behind = P2; split = (e0) ∙ ap (λ x. (token l0 x)) e1.split }

pub ruleset for_continuation = (continuation_ends0, continuation_ends1, continuation_stands)

prefix_case0 : (P : Parts) → HasNoToken P → IsNotPrefixed P
prefix_case0 none h = record { repeats = λ definitions scope s. refl; restricts = λ definitions scope s. refl }
prefix_case0 (token l ps) h = absurd h
prefix_case0 (inner p i ps) h = record { repeats = λ definitions scope s. refl; restricts = λ definitions scope s. refl }

pub prefix_ends0 : (P0 : Parts) → HasNoToken P0 → IsNotPrefixed P0
prefix_ends0 P0 h = prefix_case0 P0 h

prefix_case1 : (l0 : Lexeme) (P : Parts) → HasNoToken P → IsNotPrefixed (token l0 P)
prefix_case1 l0 none h = record { repeats = λ definitions scope s. refl; restricts = λ definitions scope s. refl }
prefix_case1 l0 (token l ps) h = absurd h
prefix_case1 l0 (inner p i ps) h = record { repeats = λ definitions scope s. refl; restricts = λ definitions scope s. refl }

pub prefix_ends1 : (P0 P1 : Parts) (l0 : Lexeme) → P0 ≡ token l0 P1 → HasNoToken P1 → IsNotPrefixed P0
prefix_ends1 P0 P1 l0 e0 h = subst IsNotPrefixed (sym (e0)) (prefix_case1 l0 P1 h)

prefix_case2 : (l0 : Lexeme) (l1 : Lexeme) (P : Parts) → HasNoInner P → IsNotPrefixed (token l0 (token l1 P))
prefix_case2 l0 l1 none h = record { repeats = λ definitions scope s. refl; restricts = λ definitions scope s. refl }
prefix_case2 l0 l1 (token l ps) h = record { repeats = λ definitions scope s. refl; restricts = λ definitions scope s. refl }
prefix_case2 l0 l1 (inner p i ps) h = absurd h

pub prefix_ends2 : (P0 P1 P2 : Parts) (l0 : Lexeme) (l1 : Lexeme) → P0 ≡ token l0 P1 → P1 ≡ token l1 P2 → HasNoInner P2 → IsNotPrefixed P0
prefix_ends2 P0 P1 P2 l0 l1 e0 e1 h = subst IsNotPrefixed (sym ((e0) ∙ ap (λ x. (token l0 x)) (e1))) (prefix_case2 l0 l1 P2 h)

pub prefix_stands : (P0 P1 P2 P3 : Parts) (l0 : Lexeme) (l1 : Lexeme) (i2 : Parts) → P0 ≡ token l0 P1 → P1 ≡ token l1 P2 → IsLed P2 i2 P3 → IsPrefixed P0 l0 l1 i2
prefix_stands P0 P1 P2 P3 l0 l1 i2 e0 e1 e2 = record { p = e2.p; behind = P3; split = ((e0) ∙ ap (λ x. (token l0 x)) e1) ∙ ap (λ x. (token l0 (token l1 x))) e2.split }

pub ruleset for_prefix = (prefix_ends0, prefix_ends1, prefix_ends2, prefix_stands)

exchange_case0 : (P : Parts) → HasNoToken P → IsNoExchange P
exchange_case0 none h = record { receives = λ definitions scope s. refl; sends = λ definitions scope s. refl }
exchange_case0 (token l ps) h = absurd h
exchange_case0 (inner p i ps) h = record { receives = λ definitions scope s. refl; sends = λ definitions scope s. refl }

pub exchange_ends0 : (P0 : Parts) → HasNoToken P0 → IsNoExchange P0
exchange_ends0 P0 h = exchange_case0 P0 h

exchange_case1 : (l0 : Lexeme) (P : Parts) → HasNoToken P → IsNoExchange (token l0 P)
exchange_case1 l0 none h = record { receives = λ definitions scope s. refl; sends = λ definitions scope s. refl }
exchange_case1 l0 (token l ps) h = absurd h
exchange_case1 l0 (inner p i ps) h = record { receives = λ definitions scope s. refl; sends = λ definitions scope s. refl }

pub exchange_ends1 : (P0 P1 : Parts) (l0 : Lexeme) → P0 ≡ token l0 P1 → HasNoToken P1 → IsNoExchange P0
exchange_ends1 P0 P1 l0 e0 h = subst IsNoExchange (sym (e0)) (exchange_case1 l0 P1 h)

exchange_case2 : (l0 : Lexeme) (l1 : Lexeme) (P : Parts) → HasNoToken P → IsNoExchange (token l0 (token l1 P))
exchange_case2 l0 l1 none h = record { receives = λ definitions scope s. refl; sends = λ definitions scope s. refl }
exchange_case2 l0 l1 (token l ps) h = absurd h
exchange_case2 l0 l1 (inner p i ps) h = record { receives = λ definitions scope s. refl; sends = λ definitions scope s. refl }

pub exchange_ends2 : (P0 P1 P2 : Parts) (l0 : Lexeme) (l1 : Lexeme) → P0 ≡ token l0 P1 → P1 ≡ token l1 P2 → HasNoToken P2 → IsNoExchange P0
exchange_ends2 P0 P1 P2 l0 l1 e0 e1 h = subst IsNoExchange (sym ((e0) ∙ ap (λ x. (token l0 x)) (e1))) (exchange_case2 l0 l1 P2 h)

exchange_case3 : (l0 : Lexeme) (l1 : Lexeme) (l2 : Lexeme) (P : Parts) → HasNoInner P → IsNoExchange (token l0 (token l1 (token l2 P)))
exchange_case3 l0 l1 l2 none h = record { receives = λ definitions scope s. refl; sends = λ definitions scope s. refl }
exchange_case3 l0 l1 l2 (token l ps) h = record { receives = λ definitions scope s. refl; sends = λ definitions scope s. refl }
exchange_case3 l0 l1 l2 (inner p i ps) h = absurd h

pub exchange_ends3 : (P0 P1 P2 P3 : Parts) (l0 : Lexeme) (l1 : Lexeme) (l2 : Lexeme) → P0 ≡ token l0 P1 → P1 ≡ token l1 P2 → P2 ≡ token l2 P3 → HasNoInner P3 → IsNoExchange P0
exchange_ends3 P0 P1 P2 P3 l0 l1 l2 e0 e1 e2 h = subst IsNoExchange (sym (((e0) ∙ ap (λ x. (token l0 x)) (e1)) ∙ ap (λ x. (token l0 (token l1 x))) (e2))) (exchange_case3 l0 l1 l2 P3 h)

exchange_case4 : (l0 : Lexeme) (l1 : Lexeme) (l2 : Lexeme) (p3 : Production) (i3 : Parts) (P : Parts) → HasNoToken P → IsNoExchange (token l0 (token l1 (token l2 (inner p3 i3 P))))
exchange_case4 l0 l1 l2 p3 i3 none h = record { receives = λ definitions scope s. refl; sends = λ definitions scope s. refl }
exchange_case4 l0 l1 l2 p3 i3 (token l ps) h = absurd h
exchange_case4 l0 l1 l2 p3 i3 (inner p i ps) h = record { receives = λ definitions scope s. refl; sends = λ definitions scope s. refl }

pub exchange_ends4 :
    (P0 P1 P2 P3 P4 : Parts) (l0 : Lexeme) (l1 : Lexeme) (l2 : Lexeme) (i3 : Parts) → P0 ≡ token l0 P1 → P1 ≡ token l1 P2 → P2 ≡ token l2 P3
    → IsLed P3 i3 P4 → HasNoToken P4 → IsNoExchange P0
exchange_ends4 P0 P1 P2 P3 P4 l0 l1 l2 i3 e0 e1 e2 e3 h =
    subst
    IsNoExchange
    (sym ((((e0) ∙ ap (λ x. (token l0 x)) (e1)) ∙ ap (λ x. (token l0 (token l1 x))) (e2)) ∙ ap (λ x. (token l0 (token l1 (token l2 x)))) (e3.split)))
    (exchange_case4 l0 l1 l2 e3.p i3 P4 h)

pub exchange_stands :
    (P0 P1 P2 P3 P4 P5 : Parts) (l0 : Lexeme) (l1 : Lexeme) (l2 : Lexeme) (i3 : Parts) (l4 : Lexeme) → P0 ≡ token l0 P1 → P1 ≡ token l1 P2
    → P2 ≡ token l2 P3 → IsLed P3 i3 P4 → P4 ≡ token l4 P5 → IsExchange P0 l1 i3 P5
exchange_stands P0 P1 P2 P3 P4 P5 l0 l1 l2 i3 l4 e0 e1 e2 e3 e4 =
    record {
      bracket = l0;
      comma = l2;
      close = l4;
      p = e3.p;
      split =
          ((((e0) ∙ ap (λ x. (token l0 x)) e1) ∙ ap (λ x. (token l0 (token l1 x))) e2) ∙ ap (λ x. (token l0 (token l1 (token l2 x)))) e3.split) ∙ ap
          (λ x. (token l0 (token l1 (token l2 (inner e3.p i3 x))))) e4;
    }

pub ruleset for_exchange = (exchange_ends0, exchange_ends1, exchange_ends2, exchange_ends3, exchange_ends4, exchange_stands)

comparison_case0 : (P : Parts) → HasNoInner P → IsNoComparison P
comparison_case0 none h = record { compares = λ definitions scope s. refl; matches = λ definitions scope s. refl }
comparison_case0 (token l ps) h = record { compares = λ definitions scope s. refl; matches = λ definitions scope s. refl }
comparison_case0 (inner p i ps) h = absurd h

pub comparison_ends0 : (P0 : Parts) → HasNoInner P0 → IsNoComparison P0
comparison_ends0 P0 h = comparison_case0 P0 h

comparison_case1 : (p0 : Production) (i0 : Parts) (P : Parts) → HasNoToken P → IsNoComparison (inner p0 i0 P)
comparison_case1 p0 i0 none h = record { compares = λ definitions scope s. refl; matches = λ definitions scope s. refl }
comparison_case1 p0 i0 (token l ps) h = absurd h
comparison_case1 p0 i0 (inner p i ps) h = record { compares = λ definitions scope s. refl; matches = λ definitions scope s. refl }

pub comparison_ends1 : (P0 P1 : Parts) (i0 : Parts) → IsLed P0 i0 P1 → HasNoToken P1 → IsNoComparison P0
comparison_ends1 P0 P1 i0 e0 h = subst IsNoComparison (sym (e0.split)) (comparison_case1 e0.p i0 P1 h)

comparison_case2 : (p0 : Production) (i0 : Parts) (l1 : Lexeme) (P : Parts) → HasNoInner P → IsNoComparison (inner p0 i0 (token l1 P))
comparison_case2 p0 i0 l1 none h = record { compares = λ definitions scope s. refl; matches = λ definitions scope s. refl }
comparison_case2 p0 i0 l1 (token l ps) h = record { compares = λ definitions scope s. refl; matches = λ definitions scope s. refl }
comparison_case2 p0 i0 l1 (inner p i ps) h = absurd h

pub comparison_ends2 : (P0 P1 P2 : Parts) (i0 : Parts) (l1 : Lexeme) → IsLed P0 i0 P1 → P1 ≡ token l1 P2 → HasNoInner P2 → IsNoComparison P0
comparison_ends2 P0 P1 P2 i0 l1 e0 e1 h = subst IsNoComparison (sym ((e0.split) ∙ ap (λ x. (inner e0.p i0 x)) (e1))) (comparison_case2 e0.p i0 l1 P2 h)

comparison_case3 : (p0 : Production) (i0 : Parts) (l1 : Lexeme) (p2 : Production) (i2 : Parts) (P : Parts) → HasNoToken P → IsNoComparison (inner p0 i0 (token l1 (inner p2 i2 P)))
comparison_case3 p0 i0 l1 p2 i2 none h = record { compares = λ definitions scope s. refl; matches = λ definitions scope s. refl }
comparison_case3 p0 i0 l1 p2 i2 (token l ps) h = absurd h
comparison_case3 p0 i0 l1 p2 i2 (inner p i ps) h = record { compares = λ definitions scope s. refl; matches = λ definitions scope s. refl }

pub comparison_ends3 : (P0 P1 P2 P3 : Parts) (i0 : Parts) (l1 : Lexeme) (i2 : Parts) → IsLed P0 i0 P1 → P1 ≡ token l1 P2 → IsLed P2 i2 P3 → HasNoToken P3 → IsNoComparison P0
comparison_ends3 P0 P1 P2 P3 i0 l1 i2 e0 e1 e2 h =
    subst IsNoComparison (sym (((e0.split) ∙ ap (λ x. (inner e0.p i0 x)) (e1)) ∙ ap (λ x. (inner e0.p i0 (token l1 x))) (e2.split))) (comparison_case3 e0.p i0 l1 e2.p i2 P3 h)

comparison_case4 :
    (p0 : Production) (i0 : Parts) (l1 : Lexeme) (p2 : Production) (i2 : Parts) (l3 : Lexeme) (P : Parts) → HasNoInner P
    → IsNoComparison (inner p0 i0 (token l1 (inner p2 i2 (token l3 P))))
comparison_case4 p0 i0 l1 p2 i2 l3 none h = record { compares = λ definitions scope s. refl; matches = λ definitions scope s. refl }
comparison_case4 p0 i0 l1 p2 i2 l3 (token l ps) h = record { compares = λ definitions scope s. refl; matches = λ definitions scope s. refl }
comparison_case4 p0 i0 l1 p2 i2 l3 (inner p i ps) h = absurd h

pub comparison_ends4 :
    (P0 P1 P2 P3 P4 : Parts) (i0 : Parts) (l1 : Lexeme) (i2 : Parts) (l3 : Lexeme) → IsLed P0 i0 P1 → P1 ≡ token l1 P2 → IsLed P2 i2 P3
    → P3 ≡ token l3 P4 → HasNoInner P4 → IsNoComparison P0
comparison_ends4 P0 P1 P2 P3 P4 i0 l1 i2 l3 e0 e1 e2 e3 h =
    subst
    IsNoComparison
    (sym ((((e0.split) ∙ ap (λ x. (inner e0.p i0 x)) (e1)) ∙ ap (λ x. (inner e0.p i0 (token l1 x))) (e2.split)) ∙ ap (λ x. (inner e0.p i0 (token l1 (inner e2.p i2 x)))) (e3)))
    (comparison_case4 e0.p i0 l1 e2.p i2 l3 P4 h)

pub comparison_stands :
    (P0 P1 P2 P3 P4 P5 : Parts) (i0 : Parts) (l1 : Lexeme) (i2 : Parts) (l3 : Lexeme) (i4 : Parts) → IsLed P0 i0 P1 → P1 ≡ token l1 P2
    → IsLed P2 i2 P3 → P3 ≡ token l3 P4 → IsLed P4 i4 P5 → IsComparison P0 i0 i2 i4 P5
comparison_stands P0 P1 P2 P3 P4 P5 i0 l1 i2 l3 i4 e0 e1 e2 e3 e4 =
    record {
      p = e0.p;
      q = e2.p;
      r = e4.p;
      equals = l1;
      word = l3;
      split =
          ((((e0.split) ∙ ap (λ x. (inner e0.p i0 x)) e1) ∙ ap (λ x. (inner e0.p i0 (token l1 x))) e2.split) ∙ ap (λ x. (inner e0.p i0 (token l1 (inner e2.p i2 x)))) e3) ∙ ap
          (λ x. (inner e0.p i0 (token l1 (inner e2.p i2 (token l3 x))))) e4.split;
    }

pub ruleset for_comparison = (comparison_ends0, comparison_ends1, comparison_ends2, comparison_ends3, comparison_ends4, comparison_stands)
