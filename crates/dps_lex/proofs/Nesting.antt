-- Comments in comments.
use Rattle.std.proofs.Common.{◌≡◌, ℕ, ◌≤◌, zero, suc, true, false, List, [], ◌∷◌, ◌++◌, length, refl, ap, sym, ◌∙◌, subst, arith, append_assoc, length-append}
use Rattle.dps_lex.specs.CommentText.{opening, closing, begins_mark, IsInside, closed, nested, other}

abbrev pub tail_of : List ℕ → List ℕ
tail_of [] = []
tail_of (b ∷ bs) = bs

abbrev pub head_of : List ℕ → ℕ
head_of [] = 0
head_of (b ∷ bs) = b

-- an inside is not empty
pub record IsCons (text : List ℕ) : Type 0 where
  pub head : ℕ
  pub tail : List ℕ
  pub is : text ≡ head ∷ tail

pub inside_some : {text : List ℕ} → IsInside text → IsCons text
inside_some (closed t) = record { head = 42; tail = 41 ∷ []; is = t }
inside_some (nested {inner} {rest} t i r) = record { head = 40; tail = 42 ∷ (inner ++ rest); is = t }
inside_some (other {rest} {b} t m r) = record { head = b; tail = rest; is = t }

-- an inside has two bytes at least
pub inside_long : {text : List ℕ} → IsInside text → 2 ≤ length text
inside_long (closed t) = omega (arith, ap length t)
inside_long (nested t i r) = omega (arith, ap length t)
inside_long (other t m r) = omega (arith, ap length t, inside_long r)

-- what stands behind an inside makes no mark with its bytes
pub mark_front : (b : ℕ) (inside after : List ℕ) → IsCons inside → begins_mark (b ∷ (inside ++ after)) ≡ begins_mark (b ∷ inside)
mark_front b inside after c =
    ap (λ i. begins_mark (b ∷ (i ++ after))) c.is ∙ ap (λ i. begins_mark (b ∷ i)) (sym c.is)

-- The bytes go on inside so many comments, and the outermost ends before `after`.
pub data Closes : ℕ → List ℕ → List ℕ → Type 0 where
  none : {bytes after : List ℕ} → bytes ≡ after → Closes zero bytes after
  more : {k : ℕ} {bytes inside between after : List ℕ} → bytes ≡ inside ++ between → IsInside inside → Closes k between after → Closes (suc k) bytes after

pub false_true : {A : Type 0} → false ≡ true → A
false_true h = absurd (cc)

-- a byte that begins no mark
pub other_on : {k : ℕ} (b : ℕ) (bs after : List ℕ) → begins_mark (b ∷ bs) ≡ false → Closes (suc k) bs after → Closes (suc k) (b ∷ bs) after
other_on b bs after m (more {inside} {between} e i c) =
    let same : begins_mark (b ∷ inside) ≡ false = sym (mark_front b inside between (inside_some i)) ∙ ap (λ z. begins_mark (b ∷ z)) (sym e) ∙ m in
    more (ap (λ z. b ∷ z) e) (other refl same i) c

pub other_back : {k : ℕ} (b : ℕ) (bs after : List ℕ) → begins_mark (b ∷ bs) ≡ false → Closes (suc k) (b ∷ bs) after → Closes (suc k) bs after
other_back b bs after m (more {between} e (closed t) c) =
    false_true (sym m ∙ ap begins_mark (e ∙ ap (λ z. z ++ between) t))
other_back b bs after m (more {between} e (nested t i r) c) =
    false_true (sym m ∙ ap begins_mark (e ∙ ap (λ z. z ++ between) t))
other_back b bs after m (more {between} e (other t n r) c) =
    more (ap tail_of (e ∙ ap (λ z. z ++ between) t)) r c

-- a text whose first byte is no part of a mark makes none with what follows
no_mark : {A : Type 0} (b : ℕ) (rest text after bytes : List ℕ) → text ≡ b ∷ rest → begins_mark text ≡ false → IsInside rest → bytes ≡ text ++ after → begins_mark bytes ≡ true → A
no_mark b rest text after bytes t m r e h =
    false_true (sym m ∙ ap begins_mark t ∙ sym (mark_front b rest after (inside_some r)) ∙ ap (λ z. begins_mark (z ++ after)) (sym t) ∙ ap begins_mark (sym e) ∙ h)

-- `(*`
pub open_on : {k : ℕ} (bs after : List ℕ) → Closes (suc (suc k)) bs after → Closes (suc k) (40 ∷ 42 ∷ bs) after
open_on bs after (more {inside} {between} e i (more {inside = outer} {between = behind} f o c)) =
    more {inside = opening ++ (inside ++ outer)} {between = behind} (ap (λ z. 40 ∷ 42 ∷ z) (e ∙ ap (λ z. inside ++ z) f ∙ sym (append_assoc inside outer behind))) (nested refl i o) c

pub open_back : {k : ℕ} (bs after : List ℕ) → Closes (suc k) (40 ∷ 42 ∷ bs) after → Closes (suc (suc k)) bs after
open_back bs after (more {between} e (closed t) c) =
    absurd (omega (arith, ap head_of (e ∙ ap (λ z. z ++ between) t)))
open_back bs after (more {between} e (nested {inner} {rest} t i r) c) =
    more {inside = inner} {between = rest ++ between} (ap tail_of (ap tail_of (e ∙ ap (λ z. z ++ between) t)) ∙ append_assoc inner rest between) i (more refl r c)
open_back bs after (more {inside} {between} e (other {rest} {b} t n r) c) =
    no_mark b rest inside between (40 ∷ 42 ∷ bs) t n r e refl

-- `*)`
pub close_on : {k : ℕ} (bs after : List ℕ) → Closes k bs after → Closes (suc k) (42 ∷ 41 ∷ bs) after
close_on bs after c = more {inside = closing} refl (closed refl) c

pub close_back : {k : ℕ} (bs after : List ℕ) → Closes (suc k) (42 ∷ 41 ∷ bs) after → Closes k bs after
close_back {k} bs after (more {between} e (closed t) c) =
    subst (λ z. Closes k z after) (sym (ap tail_of (ap tail_of (e ∙ ap (λ z. z ++ between) t)))) c
close_back bs after (more {between} e (nested t i r) c) =
    absurd (omega (arith, ap head_of (e ∙ ap (λ z. z ++ between) t)))
close_back bs after (more {inside} {between} e (other {rest} {b} t n r) c) =
    no_mark b rest inside between (42 ∷ 41 ∷ bs) t n r e refl

-- at most one byte is left, and some comment is open
pub none_closes : {k : ℕ} (bytes after : List ℕ) → length bytes ≤ 1 → Closes (suc k) bytes after → ⊥
none_closes bytes after short (more {inside} {between} e i c) =
    omega (arith, ap length e, length-append inside between, inside_long i)

-- two insides of which one begins the other are one
pub inside_same : {text twin : List ℕ} (after behind : List ℕ) → IsInside text → IsInside twin → text ++ after ≡ twin ++ behind → (text ≡ twin) × (after ≡ behind)
inside_same after behind (closed t) (closed u) e =
    let both = ap (λ z. z ++ after) (sym t) ∙ e ∙ ap (λ z. z ++ behind) u in
    (t ∙ sym u, ap tail_of (ap tail_of both))
inside_same after behind (closed t) (nested {inner} {rest} u i r) e =
    absurd (omega (arith, ap head_of (ap (λ z. z ++ after) (sym t) ∙ e ∙ ap (λ z. z ++ behind) u)))
inside_same {twin} after behind (closed t) (other {rest} {b} u m r) e =
    no_mark b rest twin behind (closing ++ after) u m r (ap (λ z. z ++ after) (sym t) ∙ e) refl
inside_same after behind (nested t i r) (closed u) e =
    absurd (omega (arith, ap head_of (ap (λ z. z ++ after) (sym t) ∙ e ∙ ap (λ z. z ++ behind) u)))
inside_same after behind (nested {inner} {rest} t i r) (nested {inner = inner2} {rest = rest2} u j s) e =
    let both = ap (λ z. z ++ after) (sym t) ∙ e ∙ ap (λ z. z ++ behind) u in
    let inners = inside_same (rest ++ after) (rest2 ++ behind) i j (sym (append_assoc inner rest after) ∙ ap tail_of (ap tail_of both) ∙ append_assoc inner2 rest2 behind) in
    let rests = inside_same after behind r s inners.1 in
    (t ∙ ap (λ z. opening ++ (z ++ rest)) inners.0 ∙ ap (λ z. opening ++ (inner2 ++ z)) rests.0 ∙ sym u, rests.1)
inside_same {twin} after behind (nested {inner} {rest} t i r) (other {rest = rest2} {b} u m s) e =
    no_mark b rest2 twin behind (opening ++ (inner ++ rest) ++ after) u m s (ap (λ z. z ++ after) (sym t) ∙ e) refl
inside_same {text} after behind (other {rest} {b} t m r) (closed u) e =
    no_mark b rest text after (closing ++ behind) t m r (ap (λ z. z ++ behind) (sym u) ∙ sym e) refl
inside_same {text} after behind (other {rest} {b} t m r) (nested {inner} {rest = rest2} u i s) e =
    no_mark b rest text after (opening ++ (inner ++ rest2) ++ behind) t m r (ap (λ z. z ++ behind) (sym u) ∙ sym e) refl
inside_same after behind (other {rest} {b} t m r) (other {rest = rest2} {b = c} u n s) e =
    let both = ap (λ z. z ++ after) (sym t) ∙ e ∙ ap (λ z. z ++ behind) u in
    let rests = inside_same after behind r s (ap tail_of both) in
    (t ∙ ap (λ z. z ∷ rest) (ap head_of both) ∙ ap (λ z. c ∷ z) rests.0 ∙ sym u, rests.1)
