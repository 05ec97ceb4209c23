-- What stands on the stack of locals.
use Rattle.std.proofs.Common.{◌≡◌, ℕ, ◌+◌, ◌-◌, ◌⊎◌, inl, inr, ◌<◌, ◌≤◌, min, List, [], ◌∷◌, ◌++◌, length, get_or, take, drop, refl, ap, sym, ◌∙◌, arith, append_assoc}
use Rattle.std.proofs.lemmas.List.{take_all, take_at, take-take, take-append-drop, take-append-le, append-nil}
use Rattle.std.proofs.lemmas.List.{length-take, length-drop, length-append, take_more, get_or-take, get_or-drop, get_or_past}
use Rattle.std.proofs.Math.Seq.{get_or-append_seam}
use Rattle.std.proofs.lemmas.Option.{unwrap_or-slice_get}
use Rattle.std.proofs.lemmas.Bool.{cases_lt}
use Rattle.dps_elab.specs.Expansion.{Value, no_value, value_at, value_of, values_of}
use Rattle.dps_names.specs.Program.{Written}
use Rattle.dps_elab.specs.Locals.{in_frame, local_value, values_on, values}
use Rattle.dps_elab.specs.declared.local.Frame.{Frame}
use Rattle.dps_elab.specs.declared.local.Local.{Local}

values_on-append : (below : List Value) (xs ys : List Local) → values_on below (xs ++ ys) ≡ values_on (values_on below xs) ys
values_on-append below [] ys = refl
values_on-append below (x ∷ xs) ys = values_on-append (below ++ local_value below x ∷ []) xs ys

-- one more on the stack
pub values-push : (xs : List Local) (l : Local) → values (xs ++ l ∷ []) ≡ values xs ++ local_value (values xs) l ∷ []
values-push xs l = values_on-append [] xs (l ∷ [])

length_on : (below : List Value) (xs : List Local) → length (values_on below xs) ≡ length below + length xs
length_on below [] = omega arith
length_on below (x ∷ xs) = omega (arith, length_on (below ++ local_value below x ∷ []) xs, length-append below (local_value below x ∷ []))

pub length-values : (xs : List Local) → length (values xs) ≡ length xs
length-values xs = omega (arith, length_on [] xs)

-- those below stay
begins : (below : List Value) (xs : List Local) → take (length below) (values_on below xs) ≡ below
begins below [] = take_all (length below) below (omega arith)
begins below (x ∷ xs) =
    let more : List Value = below ++ local_value below x ∷ [] in
    let longer : length below ≤ length more = omega (arith, length-append below (local_value below x ∷ [])) in
    sym (take-take (length below) (length more) (values_on more xs) longer)
    ∙ ap (take (length below)) (begins more xs)
    ∙ take_at below (local_value below x ∷ []) (length below) refl

split_values : (xs : List Local) (k : ℕ) → values xs ≡ values_on (values (take k xs)) (drop k xs)
split_values xs k = ap values (sym (take-append-drop k xs)) ∙ values_on-append [] (take k xs) (drop k xs)

pub take-values : (xs : List Local) (k : ℕ) → k ≤ length xs → take k (values xs) ≡ values (take k xs)
take-values xs k h =
    let n : length (values (take k xs)) ≡ k = omega (arith, length-values (take k xs), length-take k xs) in
    ap (take k) (split_values xs k)
    ∙ ap (λ m. take m (values_on (values (take k xs)) (drop k xs))) (sym n)
    ∙ begins (values (take k xs)) (drop k xs)

value_there : (xs : List Local) (k : ℕ) (l : Local) (d : Value) → k < length xs → l ≡ get_or xs k l → get_or (values xs) k d ≡ local_value (take k (values xs)) l
value_there xs k l d h e =
    let front : List Value = values (take k xs) in
    let v : Value = local_value front (get_or xs k l) in
    let n : length front ≡ k = omega (arith, length-values (take k xs), length-take k xs) in
    let up_to : take (k + 1) (values xs) ≡ front ++ v ∷ [] = take-values xs (k + 1) (omega arith) ∙ ap values (take_more xs k l h) ∙ values-push (take k xs) (get_or xs k l) in
    sym (get_or-take (k + 1) (values xs) k d (omega arith))
    ∙ ap (λ zs. get_or zs k d) up_to
    ∙ ap (λ m. get_or (front ++ v ∷ []) m d) (sym n)
    ∙ get_or-append_seam front v [] d
    ∙ (λ i. local_value (sym (take-values xs k (omega arith)) i) (sym e i))

-- the local of a frame with this number
pub found :
    (xs : List Local) (frame : Frame) (n : ℕ) (l : Local) → frame.first + n < frame.end → frame.first + n < length xs → l ≡ get_or xs (frame.first + n) l
    → value_at (in_frame (values xs) frame) n ≡ local_value (take (frame.first + n) (values xs)) l
found xs frame n l a b e =
    unwrap_or-slice_get (in_frame (values xs) frame) n no_value
    ∙ get_or-drop frame.first (take frame.end (values xs)) n no_value
    ∙ get_or-take frame.end (values xs) (frame.first + n) no_value a
    ∙ value_there xs (frame.first + n) l no_value b e

pub not_found : (vs : List Value) (frame : Frame) (n : ℕ) → length (in_frame vs frame) ≤ n → value_at (in_frame vs frame) n ≡ no_value
not_found vs frame n h = unwrap_or-slice_get (in_frame vs frame) n no_value ∙ get_or_past (in_frame vs frame) n no_value h

pub length-in_frame : (vs : List Value) (frame : Frame) → length (in_frame vs frame) ≡ min frame.end (length vs) - frame.first
length-in_frame vs frame = length-drop frame.first (take frame.end vs) ∙ ap (λ n. n - frame.first) (length-take frame.end vs)

pub past_frame : (xs : List Local) (frame : Frame) (n : ℕ) → frame.end ≤ frame.first + n → value_at (in_frame (values xs) frame) n ≡ no_value
past_frame xs frame n h = not_found (values xs) frame n (omega (arith, length-in_frame (values xs) frame))

pub past_stack : (xs : List Local) (frame : Frame) (n : ℕ) → length xs ≤ frame.first + n → value_at (in_frame (values xs) frame) n ≡ no_value
past_stack xs frame n h = not_found (values xs) frame n (omega (arith, length-in_frame (values xs) frame, length-values xs))

take_twice : (m n : ℕ) (vs : List Value) → take m (take n vs) ≡ take (min m n) vs
take_twice m n vs = by (cases_lt m n)
  where
    by : (m < n) ⊎ (n ≤ m) → take m (take n vs) ≡ take (min m n) vs
    by (inl h) = let e : min m n ≡ m = omega arith in take-take m n vs (omega arith) ∙ ap (λ k. take k vs) (sym e)
    by (inr h) =
        let e : min m n ≡ n = omega arith in
        take_all m (take n vs) (omega (arith, length-take n vs)) ∙ ap (λ k. take k vs) (sym e)

-- an argument by the locals below it
pub argument_below : (vs : List Value) (frame : Frame) (k : ℕ) → in_frame vs (record { first = frame.first; end = min frame.end k }) ≡ in_frame (take k vs) frame
argument_below vs frame k = ap (drop frame.first) (sym (take_twice frame.end k vs))

pub frame_stays : (xs ys : List Value) (frame : Frame) → frame.end ≤ length xs → in_frame (xs ++ ys) frame ≡ in_frame xs frame
frame_stays xs ys frame h = ap (drop frame.first) (take-append-le frame.end xs ys h)

values_of-append : (locals : List Value) (xs ys : List Written) → values_of locals (xs ++ ys) ≡ values_of locals xs ++ values_of locals ys
values_of-append locals [] ys = refl
values_of-append locals (x ∷ xs) ys = ap (λ vs. value_of locals x ∷ vs) (values_of-append locals xs ys)

-- some of the arguments are on the stack
pub record IsPushing (old now : List Local) (frame : Frame) (ws : List Written) : Type 0 where
  pub pushed : values now ≡ values old ++ values_of (in_frame (values old) frame) ws
  pub kept : take (length old) now ≡ old
  pub longer : length old ≤ length now

pub pushed_none : (old : List Local) (frame : Frame) → IsPushing old old frame []
pushed_none old frame = record { pushed = sym (append-nil (values old)); kept = take_all (length old) old (omega arith); longer = omega arith }

pub pushed_more :
    (old now next : List Local) (frame : Frame) (ws vs : List Written) (i : ℕ) (w d : Written) (l : Local) → IsPushing old now frame (take i ws)
    → frame.end ≤ length old → next ≡ now ++ l ∷ [] → local_value (values now) l ≡ value_of (in_frame (values now) frame) w → i < length ws → w ≡ get_or ws i d
    → vs ≡ take (i + 1) ws → IsPushing old next frame vs
pushed_more old now next frame ws vs i w d l so_far h n e b a t =
    let locals : List Value = in_frame (values old) frame in
    let same : in_frame (values now) frame ≡ locals = ap (λ zs. in_frame zs frame) so_far.pushed ∙ frame_stays (values old) (values_of locals (take i ws)) frame (omega (arith, length-values old)) in
    let here : local_value (values now) l ≡ value_of locals w = e ∙ ap (λ zs. value_of zs w) same in
    let all : vs ≡ take i ws ++ w ∷ [] = t ∙ take_more ws i d b ∙ ap (λ x. take i ws ++ x ∷ []) (sym a) in
    record {
      pushed =
          ap values n
          ∙ values-push now l
          ∙ (λ j. so_far.pushed j ++ here j ∷ [])
          ∙ append_assoc (values old) (values_of locals (take i ws)) (value_of locals w ∷ [])
          ∙ ap (λ zs. values old ++ zs) (sym (values_of-append locals (take i ws) (w ∷ [])) ∙ ap (values_of locals) (sym all));
      kept = ap (take (length old)) n ∙ take-append-le (length old) now (l ∷ []) so_far.longer ∙ so_far.kept;
      longer = omega (arith, ap length n, length-append now (l ∷ []), so_far.longer);
    }
