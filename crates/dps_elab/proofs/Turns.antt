-- Bodies that come to others.
use Rattle.std.proofs.Common.{◌≡◌, ℕ, zero, suc, ◌+◌, ◌<◌, ◌≤◌, List, [], ◌∷◌, ◌++◌, length, get_or, take, drop, refl, ap, sym, ◌∙◌, arith}
use Rattle.std.proofs.lemmas.List.{take_all, take_at, take-take, drop_at, drop-append-le, length-append, get_or_past, get_or_append_left}
use Rattle.std.proofs.Math.Seq.{get_or-append_seam}
use Rattle.std.proofs.lemmas.Option.{unwrap_or-slice_get}
use Rattle.dps_scopes.specs.Body.{Body, fresh, call, nil, body_nodes}
use Rattle.dps_names.specs.Program.{Definition, Written}
use Rattle.dps_elab.specs.Expansion.{Value, Expanding, Numbers, nothing, values_of, called, expand, meanings}
use Rattle.dps_elab.specs.Locals.{in_frame, local_value, values, locals_from}
use Rattle.dps_elab.specs.Turns.{IsTurned, weight, definition_nodes}
use Rattle.dps_elab.specs.declared.local.Local.{Local}
use Rattle.dps_elab.specs.declared.local.Local.TheVariants.{Name}
use Rattle.dps_elab.specs.declared.settle.Scope.{Scope}
use Rattle.dps_elab.proofs.Stack.{length-values, values-push}

abbrev Meaning : Type 0
Meaning = List Value → Expanding

abbrev no_meaning : Meaning
no_meaning = λ values. nothing

earlier_stay : (names : List ℕ) (earlier : List Meaning) (ds : List Definition) (i : ℕ) → i < length earlier → get_or (meanings names earlier ds) i no_meaning ≡ get_or earlier i no_meaning
earlier_stay names earlier [] i h = refl
earlier_stay names earlier (d ∷ ds) i h =
    let m : Meaning = λ arguments. expand names earlier d.body arguments in
    earlier_stay names (earlier ++ m ∷ []) ds i (omega (arith, length-append earlier (m ∷ []))) ∙ get_or_append_left earlier (m ∷ []) no_meaning i h

count_meanings : (names : List ℕ) (earlier : List Meaning) (ds : List Definition) → length (meanings names earlier ds) ≡ length earlier + length ds
count_meanings names earlier [] = omega arith
count_meanings names earlier (d ∷ ds) =
    let m : Meaning = λ arguments. expand names earlier d.body arguments in
    omega (arith, count_meanings names (earlier ++ m ∷ []) ds, length-append earlier (m ∷ []))

-- a definition means its body, behind the definitions before it
meaning_there :
    (names : List ℕ) (earlier : List Meaning) (ds : List Definition) (n k : ℕ) (d : Definition) → n < length ds → d ≡ get_or ds n d → k ≡ length earlier + n
    → get_or (meanings names earlier ds) k no_meaning ≡ (λ arguments. expand names (meanings names earlier (take n ds)) d.body arguments)
meaning_there names earlier [] n k d h e a = absurd (omega arith)
meaning_there names earlier (x ∷ ds) zero k d h e a =
    let m : Meaning = λ arguments. expand names earlier x.body arguments in
    let here : k ≡ length earlier = omega arith in
    earlier_stay names (earlier ++ m ∷ []) ds k (omega (arith, length-append earlier (m ∷ [])))
    ∙ ap (λ i. get_or (earlier ++ m ∷ []) i no_meaning) here
    ∙ get_or-append_seam earlier m [] no_meaning
    ∙ (λ i arguments. expand names earlier ((sym e) i).body arguments)
meaning_there names earlier (x ∷ ds) (suc n) k d h e a =
    let m : Meaning = λ arguments. expand names earlier x.body arguments in
    meaning_there names (earlier ++ m ∷ []) ds n k d (omega arith) e (omega (arith, length-append earlier (m ∷ [])))

pub calls :
    (names : List ℕ) (ds : List Definition) (n : ℕ) (d : Definition) (arguments : List Value) (next : Numbers) → n < length ds → d ≡ get_or ds n d
    → expand names (meanings names [] (take n ds)) d.body arguments next ≡ called names (meanings names [] ds) n arguments next
calls names ds n d arguments next h e =
    sym (ap (λ f. f arguments next) (unwrap_or-slice_get (meanings names [] ds) n no_meaning ∙ meaning_there names [] ds n n d h e (omega arith)))

pub calls_nothing : (names : List ℕ) (ds : List Definition) (n : ℕ) (arguments : List Value) (next : Numbers) → length ds ≤ n → nothing next ≡ called names (meanings names [] ds) n arguments next
calls_nothing names ds n arguments next h =
    sym (ap (λ f. f arguments next) (unwrap_or-slice_get (meanings names [] ds) n no_meaning ∙ get_or_past (meanings names [] ds) n no_meaning (omega (arith, count_meanings names [] ds))))

pub locals_push : (first : ℕ) (old new : List Local) (l : Local) → first ≤ length old → new ≡ old ++ l ∷ [] → locals_from first new ≡ locals_from first old ++ local_value (values old) l ∷ []
locals_push first old new l h e =
    ap (locals_from first) e
    ∙ ap (drop first) (values-push old l)
    ∙ drop-append-le first (values old) (local_value (values old) l ∷ []) (omega (arith, length-values old))

-- the frame that ends at the top of the stack
pub frame_on_top : (stack : List Local) (first end : ℕ) → end ≡ length stack → in_frame (values stack) (record { first = first; end = end }) ≡ locals_from first stack
frame_on_top stack first end e = ap (drop first) (take_all end (values stack) (omega (arith, length-values stack)))

pub turned_none : (scope : Scope) (stack : List Local) (body : Body) (name : ℕ) → scope.first ≤ length stack → IsTurned scope stack body name scope stack body name
turned_none scope stack body name h = record { same = λ v. refl; kept = take_all (length stack) stack (omega arith); longer = omega arith; within = h }

pub turned_on : (scope : Scope) (old : List Local) (body : Body) (name : ℕ) (inner : Scope) (mid : List Local) (next : Body) (after : ℕ) (deeper : Scope) (new : List Local) (last : Body) (end : ℕ)
    → IsTurned scope old body name inner mid next after → IsTurned inner mid next after deeper new last end → IsTurned scope old body name deeper new last end
turned_on scope old body name inner mid next after deeper new last end a b = record {
  same = λ v. b.same v ∙ a.same v;
  kept = sym (take-take (length old) (length mid) new a.longer) ∙ ap (take (length old)) b.kept ∙ a.kept;
  longer = omega (arith, a.longer, b.longer);
  within = b.within;
}

pub fresh_turned :
    (scope : Scope) (old new : List Local) (body : Body) (name after : ℕ) → scope.first ≤ length old → new ≡ old ++ Name name ∷ [] → after ≡ name + 1
    → IsTurned scope old (fresh body) name scope new body after
fresh_turned scope old new body name after h e a = record {
  same =
      λ v i. expand scope.private_names.now (meanings scope.private_names.now [] scope.definitions.now) body (locals_push scope.first old new (Name name) h e i) (record { variable = v; name = a i });
  kept = ap (take (length old)) e ∙ take_at old (Name name ∷ []) (length old) refl;
  longer = omega (arith, ap length e, length-append old (Name name ∷ []));
  within = omega (arith, ap length e, length-append old (Name name ∷ []));
}

weight_before : (ds : List Definition) (n : ℕ) (d : Definition) → n < length ds → d ≡ get_or ds n d → definition_nodes (take n ds) + 1 + body_nodes d.body ≤ definition_nodes ds
weight_before [] n d h e = absurd (omega arith)
weight_before (x ∷ ds) zero d h e = omega (arith, ap (λ y. body_nodes y.body) e)
weight_before (x ∷ ds) (suc n) d h e = omega (arith, weight_before ds n d (omega arith) e)

pub call_lighter :
    (ds earlier : List Definition) (n : ℕ) (ws : List Written) (d : Definition) (body : Body) → n < length ds → d ≡ get_or ds n d → earlier ≡ take n ds
    → body ≡ d.body → weight earlier body < weight ds (call n ws)
call_lighter ds earlier n ws d body h e a b = omega (arith, weight_before ds n d h e, ap definition_nodes a, ap body_nodes b)

pub call_turned : (scope inner : Scope) (old new : List Local) (n : ℕ) (ws : List Written) (name : ℕ) (d : Definition) (body : Body)
    → n < length scope.definitions.now → d ≡ get_or scope.definitions.now n d → body ≡ d.body
    → inner.private_names.now ≡ scope.private_names.now → inner.definitions.now ≡ take n scope.definitions.now → inner.first ≡ length old
    → values new ≡ values old ++ values_of (in_frame (values old) (record { first = scope.first; end = inner.first })) ws → take (length old) new ≡ old
    → IsTurned scope old (call n ws) name inner new body name
call_turned scope inner old new n ws name d body h e b p q r pushed kept =
    let names : List ℕ = scope.private_names.now in
    let top : in_frame (values old) (record { first = scope.first; end = inner.first }) ≡ locals_from scope.first old = frame_on_top old scope.first inner.first r in
    let all : values new ≡ values old ++ values_of (locals_from scope.first old) ws = pushed ∙ ap (λ ls. values old ++ values_of ls ws) top in
    let locals : locals_from inner.first new ≡ values_of (locals_from scope.first old) ws =
    ap (λ k. drop k (values new)) r ∙ ap (drop (length old)) all ∙ drop_at (values old) (values_of (locals_from scope.first old) ws) (length old) (length-values old) in
    let more : length old ≤ length new = omega (arith, ap length all, length-values old, length-values new, length-append (values old) (values_of (locals_from scope.first old) ws)) in
    record {
      same =
          λ v.
          (λ i. expand (p i) (meanings (p i) [] (q i)) (b i) (locals i) (record { variable = v; name = name }))
          ∙ calls names scope.definitions.now n d (values_of (locals_from scope.first old) ws) (record { variable = v; name = name }) h e;
      kept = kept;
      longer = more;
      within = omega (arith, more);
    }

pub call_nothing_turned :
    (scope : Scope) (old : List Local) (n : ℕ) (ws : List Written) (name : ℕ) → scope.first ≤ length old → length scope.definitions.now ≤ n
    → IsTurned scope old (call n ws) name scope old nil name
call_nothing_turned scope old n ws name h k = record {
  same = λ v. calls_nothing scope.private_names.now scope.definitions.now n (values_of (locals_from scope.first old) ws) (record { variable = v; name = name }) k;
  kept = take_all (length old) old (omega arith);
  longer = omega arith;
  within = h;
}

pub ruleset for_settle = (turned_on, turned_none)

pub on_top : (stack items : List Local) (first end : ℕ) → stack ≡ items → end ≡ length items → in_frame (values stack) (record { first = first; end = end }) ≡ locals_from first items
on_top stack items first end e h = ap (λ ls. in_frame (values ls) (record { first = first; end = end })) e ∙ frame_on_top items first end h
