-- What writes do to the bytes that are told.
use Rattle.std.proofs.Common.{◌≡◌, ◌≤◌, ◌<◌, ◌+◌, ◌-◌, ℕ, List, [], ◌++◌, take, drop, length, Option, Some, None, refl, ap, sym, ◌∙◌, append_assoc, arith, length-drop}
use Rattle.std.proofs.Math.Seq.{take-add}
use Rattle.std.proofs.lemmas.List.{append-nil, drop-drop, take_all}
use Rattle.std.specs.Io.KnownBytes.{append_known}
use Rattle.dps_io.specs.Bytes.{AppendsFront}

-- nothing was written yet
append_none : (old : Option (List ℕ)) → old ≡ append_known old []
append_none None = refl
append_none (Some xs) = ap Some (sym (append-nil xs))

-- two pieces were written
append_both : (old : Option (List ℕ)) (first second : List ℕ) → append_known (append_known old first) second ≡ append_known old (first ++ second)
append_both None first second = refl
append_both (Some xs) first second = ap Some (append_assoc xs first second)

-- all but the rest is written
pub record IsWritten (first now : Option (List ℕ)) (bytes rest : List ℕ) : Type 0 where
  pub count : ℕ
  pub within : count ≤ length bytes
  pub rest_is : rest ≡ drop count bytes
  pub front : now ≡ append_known first (take count bytes)

-- nothing was written, and all is left
pub written_none : (first : Option (List ℕ)) (bytes : List ℕ) → IsWritten first first bytes bytes
written_none first bytes = record { count = 0; within = omega arith; rest_is = refl; front = append_none first }

-- how much is left
rest_length : (first now : Option (List ℕ)) (bytes rest : List ℕ) (w : IsWritten first now bytes rest) → length rest ≡ length bytes - w.count
rest_length first now bytes rest w = ap length w.rest_is ∙ length-drop w.count bytes

-- one more piece was written
pub written_more :
    (first old new : Option (List ℕ)) (bytes rest : List ℕ) (n : ℕ) → IsWritten first old bytes rest → n ≤ length rest → new ≡ append_known old (take n rest)
    → IsWritten first new bytes (drop n rest)
written_more first old new bytes rest n w le appended = record {
  count = w.count + n;
  within = (let e = rest_length first old bytes rest w in let within = w.within in omega arith);
  rest_is = ap (λ t. drop n t) w.rest_is ∙ drop-drop n w.count bytes;
  front = appended
      ∙ ap (λ t. append_known t (take n rest)) w.front
      ∙ append_both first (take w.count bytes) (take n rest)
      ∙ ap (λ t. append_known first (take w.count bytes ++ take n t)) w.rest_is
      ∙ ap (λ t. append_known first t) (sym (take-add w.count n bytes));
}

-- nothing is left, so all was written
pub written_all : (first now : Option (List ℕ)) (bytes rest : List ℕ) → IsWritten first now bytes rest → length rest ≡ 0 → now ≡ append_known first bytes
written_all first now bytes rest w empty =
    let none : length bytes ≤ w.count = (let e = rest_length first now bytes rest w in omega arith) in
    w.front ∙ ap (λ t. append_known first t) (take_all w.count bytes none)

-- a write failed before all was written
pub written_front : (first old new : Option (List ℕ)) (bytes rest : List ℕ) → IsWritten first old bytes rest → 0 < length rest → new ≡ old → AppendsFront first new bytes
written_front first old new bytes rest w some kept = record {
  count = w.count;
  not_all = (let e = rest_length first old bytes rest w in omega arith);
  appended = kept ∙ w.front;
}

pub ruleset for_write_all = (written_none, written_more, written_all, written_front)
