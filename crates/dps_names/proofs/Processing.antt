-- What processes say, from what their parts say.
use Rattle.std.proofs.Common.{◌≡◌, ℕ, Bool, true, false, List, [], ◌∷◌, refl, sym, ap, ◌∙◌, if◌then◌else◌}
use Rattle.dps_signature.specs.Signature.{Signature}
use Rattle.dps_syntax.specs.Tree.{Lexeme, Parts, none, token, inner}
use Rattle.dps_scopes.specs.declared.fault.NameFault.{NameFault}
use Rattle.dps_scopes.specs.declared.fault.NameCause.TheVariants.{BadCopies}
use Rattle.dps_scopes.specs.declared.body.Channel.{Channel}
use Rattle.dps_scopes.specs.Outcome.{Outcome, done, faulty, and_then, fault_at}
use Rattle.dps_scopes.specs.Scopes.{Locals, meaning}
use Rattle.dps_scopes.specs.Terms.{term, terms, count_inner}
use Rattle.dps_names.specs.Program.{Written, Definition, Body, nil, parallel, copies, fresh, input, output, conditional, bind}
use Rattle.dps_names.specs.declared.shape.Start.{Start}
use Rattle.dps_names.specs.declared.shape.Start.TheVariants as starts
use Rattle.dps_names.specs.Starts.{start_of, by_start}
use Rattle.dps_names.specs.Processes.{Pattern, number_of, is_number_of_copies, joined, call_as, channel, pattern_in, parallels, process, grouped, repeated, restricted}
use Rattle.dps_names.specs.Processes.{received, sent, compared, matched, continued}
use Rattle.dps_names.specs.Shapes.{HasNoToken, IsNoGroup, IsEnded, IsNotPrefixed, IsNoExchange, IsNoComparison, IsGroup, IsContinued, IsPrefixed, IsExchange, IsComparison}

module _ (definitions : List Definition) (scope : Locals) where
  grouped_is :
      (parts : Parts) (inside : Parts) (s0 : Signature) → IsGroup parts inside
      → grouped definitions scope parts s0 ≡ and_then (parallels definitions scope inside s0) (λ ps s1. done (joined parallel ps) s1)
  grouped_is parts inside s0 shape = ap (λ ps. grouped definitions scope ps s0) shape.split

  pub grouped_done :
      (parts : Parts) (inside : Parts) (ps : List Body) (s0 s1 : Signature) (b : Body) → IsGroup parts inside
      → parallels definitions scope inside s0 ≡ done ps s1 → b ≡ joined parallel ps → grouped definitions scope parts s0 ≡ done b s1
  grouped_done parts inside ps s0 s1 b shape e0 is = (grouped_is parts inside s0 shape ∙ ap (λ o. and_then o (λ ps s1. done (joined parallel ps) s1)) e0) ∙ ap (λ x. done x s1) (sym is)

  pub grouped_fault1 :
      (parts : Parts) (inside : Parts) (s0 : Signature) (f : NameFault) → IsGroup parts inside → parallels definitions scope inside s0 ≡ faulty f
      → grouped definitions scope parts s0 ≡ faulty f
  grouped_fault1 parts inside s0 f shape e = (grouped_is parts inside s0 shape) ∙ ap (λ o. and_then o (λ ps s1. done (joined parallel ps) s1)) e

  restricted_is :
      (parts : Parts) (name : Lexeme) (second : Lexeme) (inside : Parts) (s0 : Signature) → IsPrefixed parts name second inside
      → restricted definitions scope parts s0 ≡ and_then (process definitions ((name.text ∷ []) ∷ scope) inside s0) (λ q s1. done (fresh q) s1)
  restricted_is parts name second inside s0 shape = ap (λ ps. restricted definitions scope ps s0) shape.split

  pub restricted_done :
      (parts : Parts) (name : Lexeme) (second : Lexeme) (inside : Parts) (q : Body) (s0 s1 : Signature) (b : Body)
      → IsPrefixed parts name second inside → process definitions ((name.text ∷ []) ∷ scope) inside s0 ≡ done q s1 → b ≡ fresh q
      → restricted definitions scope parts s0 ≡ done b s1
  restricted_done parts name second inside q s0 s1 b shape e0 is =
      (restricted_is parts name second inside s0 shape ∙ ap (λ o. and_then o (λ q s1. done (fresh q) s1)) e0) ∙ ap (λ x. done x s1) (sym is)

  pub restricted_fault1 :
      (parts : Parts) (name : Lexeme) (second : Lexeme) (inside : Parts) (s0 : Signature) (f : NameFault) → IsPrefixed parts name second inside
      → process definitions ((name.text ∷ []) ∷ scope) inside s0 ≡ faulty f → restricted definitions scope parts s0 ≡ faulty f
  restricted_fault1 parts name second inside s0 f shape e = (restricted_is parts name second inside s0 shape) ∙ ap (λ o. and_then o (λ q s1. done (fresh q) s1)) e

  received_is :
      (parts : Parts) (name : Lexeme) (inside : Parts) (rest : Parts) (s0 : Signature) → IsExchange parts name inside rest
      → received definitions scope parts s0 ≡ and_then (channel definitions scope name s0)
      (λ c s1. and_then (pattern_in definitions scope inside s1) (λ found s2. and_then (continued definitions (found.names ∷ scope) rest s2) (λ q s3. done (input c found.steps q) s3)))
  received_is parts name inside rest s0 shape = ap (λ ps. received definitions scope ps s0) shape.split

  pub received_done :
      (parts : Parts) (name : Lexeme) (inside : Parts) (rest : Parts) (c : Channel) (found : Pattern) (q : Body) (s0 s1 s2 s3 : Signature) (b : Body)
      → IsExchange parts name inside rest → channel definitions scope name s0 ≡ done c s1 → pattern_in definitions scope inside s1 ≡ done found s2
      → continued definitions (found.names ∷ scope) rest s2 ≡ done q s3 → b ≡ input c found.steps q → received definitions scope parts s0 ≡ done b s3
  received_done parts name inside rest c found q s0 s1 s2 s3 b shape e0 e1 e2 is =
      (((received_is parts name inside rest s0 shape ∙ ap
      (λ o. and_then o (λ c s1. and_then (pattern_in definitions scope inside s1)
      (λ found s2. and_then (continued definitions (found.names ∷ scope) rest s2) (λ q s3. done (input c found.steps q) s3)))) e0) ∙ ap
      (λ o. and_then o (λ found s2. and_then (continued definitions (found.names ∷ scope) rest s2) (λ q s3. done (input c found.steps q) s3))) e1) ∙ ap
      (λ o. and_then o (λ q s3. done (input c found.steps q) s3)) e2) ∙ ap (λ x. done x s3) (sym is)

  pub received_fault1 :
      (parts : Parts) (name : Lexeme) (inside : Parts) (rest : Parts) (s0 : Signature) (f : NameFault) → IsExchange parts name inside rest
      → channel definitions scope name s0 ≡ faulty f → received definitions scope parts s0 ≡ faulty f
  received_fault1 parts name inside rest s0 f shape e =
      (received_is parts name inside rest s0 shape) ∙ ap
      (λ o. and_then o (λ c s1. and_then (pattern_in definitions scope inside s1)
      (λ found s2. and_then (continued definitions (found.names ∷ scope) rest s2) (λ q s3. done (input c found.steps q) s3)))) e

  pub received_fault2 :
      (parts : Parts) (name : Lexeme) (inside : Parts) (rest : Parts) (c : Channel) (s0 s1 : Signature) (f : NameFault)
      → IsExchange parts name inside rest → channel definitions scope name s0 ≡ done c s1 → pattern_in definitions scope inside s1 ≡ faulty f
      → received definitions scope parts s0 ≡ faulty f
  received_fault2 parts name inside rest c s0 s1 f shape e0 e =
      ((received_is parts name inside rest s0 shape) ∙ ap
      (λ o. and_then o (λ c s1. and_then (pattern_in definitions scope inside s1)
      (λ found s2. and_then (continued definitions (found.names ∷ scope) rest s2) (λ q s3. done (input c found.steps q) s3)))) e0) ∙ ap
      (λ o. and_then o (λ found s2. and_then (continued definitions (found.names ∷ scope) rest s2) (λ q s3. done (input c found.steps q) s3))) e

  pub received_fault3 :
      (parts : Parts) (name : Lexeme) (inside : Parts) (rest : Parts) (c : Channel) (found : Pattern) (s0 s1 s2 : Signature) (f : NameFault)
      → IsExchange parts name inside rest → channel definitions scope name s0 ≡ done c s1 → pattern_in definitions scope inside s1 ≡ done found s2
      → continued definitions (found.names ∷ scope) rest s2 ≡ faulty f → received definitions scope parts s0 ≡ faulty f
  received_fault3 parts name inside rest c found s0 s1 s2 f shape e0 e1 e =
      (((received_is parts name inside rest s0 shape) ∙ ap
      (λ o. and_then o (λ c s1. and_then (pattern_in definitions scope inside s1)
      (λ found s2. and_then (continued definitions (found.names ∷ scope) rest s2) (λ q s3. done (input c found.steps q) s3)))) e0) ∙ ap
      (λ o. and_then o (λ found s2. and_then (continued definitions (found.names ∷ scope) rest s2) (λ q s3. done (input c found.steps q) s3))) e1) ∙ ap
      (λ o. and_then o (λ q s3. done (input c found.steps q) s3)) e

  sent_is :
      (parts : Parts) (name : Lexeme) (inside : Parts) (rest : Parts) (s0 : Signature) → IsExchange parts name inside rest
      → sent definitions scope parts s0 ≡ and_then (channel definitions scope name s0)
      (λ c s1. and_then (term definitions scope inside s1) (λ u s2. and_then (continued definitions scope rest s2) (λ q s3. done (output c u q) s3)))
  sent_is parts name inside rest s0 shape = ap (λ ps. sent definitions scope ps s0) shape.split

  pub sent_done :
      (parts : Parts) (name : Lexeme) (inside : Parts) (rest : Parts) (c : Channel) (u : Written) (q : Body) (s0 s1 s2 s3 : Signature) (b : Body)
      → IsExchange parts name inside rest → channel definitions scope name s0 ≡ done c s1 → term definitions scope inside s1 ≡ done u s2
      → continued definitions scope rest s2 ≡ done q s3 → b ≡ output c u q → sent definitions scope parts s0 ≡ done b s3
  sent_done parts name inside rest c u q s0 s1 s2 s3 b shape e0 e1 e2 is =
      (((sent_is parts name inside rest s0 shape ∙ ap
      (λ o. and_then o (λ c s1. and_then (term definitions scope inside s1) (λ u s2. and_then (continued definitions scope rest s2) (λ q s3. done (output c u q) s3)))) e0) ∙ ap
      (λ o. and_then o (λ u s2. and_then (continued definitions scope rest s2) (λ q s3. done (output c u q) s3))) e1) ∙ ap (λ o. and_then o (λ q s3. done (output c u q) s3)) e2) ∙ ap
      (λ x. done x s3) (sym is)

  pub sent_fault1 :
      (parts : Parts) (name : Lexeme) (inside : Parts) (rest : Parts) (s0 : Signature) (f : NameFault) → IsExchange parts name inside rest
      → channel definitions scope name s0 ≡ faulty f → sent definitions scope parts s0 ≡ faulty f
  sent_fault1 parts name inside rest s0 f shape e =
      (sent_is parts name inside rest s0 shape)
      ∙ ap (λ o. and_then o (λ c s1. and_then (term definitions scope inside s1) (λ u s2. and_then (continued definitions scope rest s2) (λ q s3. done (output c u q) s3)))) e

  pub sent_fault2 :
      (parts : Parts) (name : Lexeme) (inside : Parts) (rest : Parts) (c : Channel) (s0 s1 : Signature) (f : NameFault)
      → IsExchange parts name inside rest → channel definitions scope name s0 ≡ done c s1 → term definitions scope inside s1 ≡ faulty f
      → sent definitions scope parts s0 ≡ faulty f
  sent_fault2 parts name inside rest c s0 s1 f shape e0 e =
      ((sent_is parts name inside rest s0 shape) ∙ ap
      (λ o. and_then o (λ c s1. and_then (term definitions scope inside s1) (λ u s2. and_then (continued definitions scope rest s2) (λ q s3. done (output c u q) s3)))) e0) ∙ ap
      (λ o. and_then o (λ u s2. and_then (continued definitions scope rest s2) (λ q s3. done (output c u q) s3))) e

  pub sent_fault3 :
      (parts : Parts) (name : Lexeme) (inside : Parts) (rest : Parts) (c : Channel) (u : Written) (s0 s1 s2 : Signature) (f : NameFault)
      → IsExchange parts name inside rest → channel definitions scope name s0 ≡ done c s1 → term definitions scope inside s1 ≡ done u s2
      → continued definitions scope rest s2 ≡ faulty f → sent definitions scope parts s0 ≡ faulty f
  sent_fault3 parts name inside rest c u s0 s1 s2 f shape e0 e1 e =
      (((sent_is parts name inside rest s0 shape) ∙ ap
      (λ o. and_then o (λ c s1. and_then (term definitions scope inside s1) (λ u s2. and_then (continued definitions scope rest s2) (λ q s3. done (output c u q) s3)))) e0) ∙ ap
      (λ o. and_then o (λ u s2. and_then (continued definitions scope rest s2) (λ q s3. done (output c u q) s3))) e1) ∙ ap (λ o. and_then o (λ q s3. done (output c u q) s3)) e

  compared_is :
      (parts : Parts) (left : Parts) (right : Parts) (chosen : Parts) (rest : Parts) (s0 : Signature) → IsComparison parts left right chosen rest
      → compared definitions scope parts s0 ≡ and_then (term definitions scope left s0)
      (λ u s1. and_then (term definitions scope right s1)
      (λ v s2. and_then (process definitions scope chosen s2) (λ p s3. and_then (continued definitions scope rest s3) (λ q s4. done (conditional u v p q) s4))))
  compared_is parts left right chosen rest s0 shape = ap (λ ps. compared definitions scope ps s0) shape.split

  pub compared_done :
      (parts : Parts) (left : Parts) (right : Parts) (chosen : Parts) (rest : Parts) (u : Written) (v : Written) (p : Body) (q : Body) (s0 s1 s2 s3 s4 : Signature) (b : Body)
      → IsComparison parts left right chosen rest → term definitions scope left s0 ≡ done u s1 → term definitions scope right s1 ≡ done v s2
      → process definitions scope chosen s2 ≡ done p s3 → continued definitions scope rest s3 ≡ done q s4 → b ≡ conditional u v p q
      → compared definitions scope parts s0 ≡ done b s4
  compared_done parts left right chosen rest u v p q s0 s1 s2 s3 s4 b shape e0 e1 e2 e3 is =
      ((((compared_is parts left right chosen rest s0 shape ∙ ap
      (λ o. and_then o (λ u s1. and_then (term definitions scope right s1)
      (λ v s2. and_then (process definitions scope chosen s2) (λ p s3. and_then (continued definitions scope rest s3) (λ q s4. done (conditional u v p q) s4))))) e0) ∙ ap
      (λ o. and_then o (λ v s2. and_then (process definitions scope chosen s2) (λ p s3. and_then (continued definitions scope rest s3) (λ q s4. done (conditional u v p q) s4)))) e1) ∙ ap
      (λ o. and_then o (λ p s3. and_then (continued definitions scope rest s3) (λ q s4. done (conditional u v p q) s4))) e2) ∙ ap (λ o. and_then o (λ q s4. done (conditional u v p q) s4))
      e3) ∙ ap (λ x. done x s4) (sym is)

  pub compared_fault1 :
      (parts : Parts) (left : Parts) (right : Parts) (chosen : Parts) (rest : Parts) (s0 : Signature) (f : NameFault)
      → IsComparison parts left right chosen rest → term definitions scope left s0 ≡ faulty f → compared definitions scope parts s0 ≡ faulty f
  compared_fault1 parts left right chosen rest s0 f shape e =
      (compared_is parts left right chosen rest s0 shape) ∙ ap
      (λ o. and_then o (λ u s1. and_then (term definitions scope right s1)
      (λ v s2. and_then (process definitions scope chosen s2) (λ p s3. and_then (continued definitions scope rest s3) (λ q s4. done (conditional u v p q) s4))))) e

  pub compared_fault2 :
      (parts : Parts) (left : Parts) (right : Parts) (chosen : Parts) (rest : Parts) (u : Written) (s0 s1 : Signature) (f : NameFault)
      → IsComparison parts left right chosen rest → term definitions scope left s0 ≡ done u s1 → term definitions scope right s1 ≡ faulty f
      → compared definitions scope parts s0 ≡ faulty f
  compared_fault2 parts left right chosen rest u s0 s1 f shape e0 e =
      ((compared_is parts left right chosen rest s0 shape) ∙ ap
      (λ o. and_then o (λ u s1. and_then (term definitions scope right s1)
      (λ v s2. and_then (process definitions scope chosen s2) (λ p s3. and_then (continued definitions scope rest s3) (λ q s4. done (conditional u v p q) s4))))) e0) ∙ ap
      (λ o. and_then o (λ v s2. and_then (process definitions scope chosen s2) (λ p s3. and_then (continued definitions scope rest s3) (λ q s4. done (conditional u v p q) s4)))) e

  pub compared_fault3 :
      (parts : Parts) (left : Parts) (right : Parts) (chosen : Parts) (rest : Parts) (u : Written) (v : Written) (s0 s1 s2 : Signature) (f : NameFault)
      → IsComparison parts left right chosen rest → term definitions scope left s0 ≡ done u s1 → term definitions scope right s1 ≡ done v s2
      → process definitions scope chosen s2 ≡ faulty f → compared definitions scope parts s0 ≡ faulty f
  compared_fault3 parts left right chosen rest u v s0 s1 s2 f shape e0 e1 e =
      (((compared_is parts left right chosen rest s0 shape) ∙ ap
      (λ o. and_then o (λ u s1. and_then (term definitions scope right s1)
      (λ v s2. and_then (process definitions scope chosen s2) (λ p s3. and_then (continued definitions scope rest s3) (λ q s4. done (conditional u v p q) s4))))) e0) ∙ ap
      (λ o. and_then o (λ v s2. and_then (process definitions scope chosen s2) (λ p s3. and_then (continued definitions scope rest s3) (λ q s4. done (conditional u v p q) s4)))) e1) ∙ ap
      (λ o. and_then o (λ p s3. and_then (continued definitions scope rest s3) (λ q s4. done (conditional u v p q) s4))) e

  pub compared_fault4 :
      (parts : Parts) (left : Parts) (right : Parts) (chosen : Parts) (rest : Parts) (u : Written) (v : Written) (p : Body) (s0 s1 s2 s3 : Signature) (f : NameFault)
      → IsComparison parts left right chosen rest → term definitions scope left s0 ≡ done u s1 → term definitions scope right s1 ≡ done v s2
      → process definitions scope chosen s2 ≡ done p s3 → continued definitions scope rest s3 ≡ faulty f
      → compared definitions scope parts s0 ≡ faulty f
  compared_fault4 parts left right chosen rest u v p s0 s1 s2 s3 f shape e0 e1 e2 e =
      ((((compared_is parts left right chosen rest s0 shape) ∙ ap
      (λ o. and_then o (λ u s1. and_then (term definitions scope right s1)
      (λ v s2. and_then (process definitions scope chosen s2) (λ p s3. and_then (continued definitions scope rest s3) (λ q s4. done (conditional u v p q) s4))))) e0) ∙ ap
      (λ o. and_then o (λ v s2. and_then (process definitions scope chosen s2) (λ p s3. and_then (continued definitions scope rest s3) (λ q s4. done (conditional u v p q) s4)))) e1) ∙ ap
      (λ o. and_then o (λ p s3. and_then (continued definitions scope rest s3) (λ q s4. done (conditional u v p q) s4))) e2) ∙ ap (λ o. and_then o (λ q s4. done (conditional u v p q) s4)) e

  matched_is :
      (parts : Parts) (left : Parts) (right : Parts) (chosen : Parts) (rest : Parts) (s0 : Signature) → IsComparison parts left right chosen rest
      → matched definitions scope parts s0 ≡ and_then (pattern_in definitions scope left s0)
      (λ found s1. and_then (term definitions scope right s1)
      (λ u s2. and_then (process definitions (found.names ∷ scope) chosen s2) (λ p s3. and_then (continued definitions scope rest s3) (λ q s4. done (bind u found.steps p q) s4))))
  matched_is parts left right chosen rest s0 shape = ap (λ ps. matched definitions scope ps s0) shape.split

  pub matched_done :
      (parts : Parts) (left : Parts) (right : Parts) (chosen : Parts) (rest : Parts) (found : Pattern) (u : Written) (p : Body) (q : Body) (s0 s1 s2 s3 s4 : Signature) (b : Body)
      → IsComparison parts left right chosen rest → pattern_in definitions scope left s0 ≡ done found s1 → term definitions scope right s1 ≡ done u s2
      → process definitions (found.names ∷ scope) chosen s2 ≡ done p s3 → continued definitions scope rest s3 ≡ done q s4 → b ≡ bind u found.steps p q
      → matched definitions scope parts s0 ≡ done b s4
  matched_done parts left right chosen rest found u p q s0 s1 s2 s3 s4 b shape e0 e1 e2 e3 is =
      ((((matched_is parts left right chosen rest s0 shape ∙ ap
      (λ o. and_then o (λ found s1. and_then (term definitions scope right s1)
      (λ u s2. and_then (process definitions (found.names ∷ scope) chosen s2) (λ p s3. and_then (continued definitions scope rest s3) (λ q s4. done (bind u found.steps p q) s4))))) e0) ∙ ap
      (λ o. and_then o (λ u s2. and_then (process definitions (found.names ∷ scope) chosen s2)
      (λ p s3. and_then (continued definitions scope rest s3) (λ q s4. done (bind u found.steps p q) s4)))) e1) ∙ ap
      (λ o. and_then o (λ p s3. and_then (continued definitions scope rest s3) (λ q s4. done (bind u found.steps p q) s4))) e2) ∙ ap
      (λ o. and_then o (λ q s4. done (bind u found.steps p q) s4)) e3) ∙ ap (λ x. done x s4) (sym is)

  pub matched_fault1 :
      (parts : Parts) (left : Parts) (right : Parts) (chosen : Parts) (rest : Parts) (s0 : Signature) (f : NameFault)
      → IsComparison parts left right chosen rest → pattern_in definitions scope left s0 ≡ faulty f → matched definitions scope parts s0 ≡ faulty f
  matched_fault1 parts left right chosen rest s0 f shape e =
      (matched_is parts left right chosen rest s0 shape) ∙ ap
      (λ o. and_then o (λ found s1. and_then (term definitions scope right s1)
      (λ u s2. and_then (process definitions (found.names ∷ scope) chosen s2) (λ p s3. and_then (continued definitions scope rest s3) (λ q s4. done (bind u found.steps p q) s4))))) e

  pub matched_fault2 :
      (parts : Parts) (left : Parts) (right : Parts) (chosen : Parts) (rest : Parts) (found : Pattern) (s0 s1 : Signature) (f : NameFault)
      → IsComparison parts left right chosen rest → pattern_in definitions scope left s0 ≡ done found s1 → term definitions scope right s1 ≡ faulty f
      → matched definitions scope parts s0 ≡ faulty f
  matched_fault2 parts left right chosen rest found s0 s1 f shape e0 e =
      ((matched_is parts left right chosen rest s0 shape) ∙ ap
      (λ o. and_then o (λ found s1. and_then (term definitions scope right s1)
      (λ u s2. and_then (process definitions (found.names ∷ scope) chosen s2) (λ p s3. and_then (continued definitions scope rest s3) (λ q s4. done (bind u found.steps p q) s4))))) e0) ∙ ap
      (λ o. and_then o (λ u s2. and_then (process definitions (found.names ∷ scope) chosen s2)
      (λ p s3. and_then (continued definitions scope rest s3) (λ q s4. done (bind u found.steps p q) s4)))) e

  pub matched_fault3 :
      (parts : Parts) (left : Parts) (right : Parts) (chosen : Parts) (rest : Parts) (found : Pattern) (u : Written) (s0 s1 s2 : Signature) (f : NameFault)
      → IsComparison parts left right chosen rest → pattern_in definitions scope left s0 ≡ done found s1 → term definitions scope right s1 ≡ done u s2
      → process definitions (found.names ∷ scope) chosen s2 ≡ faulty f → matched definitions scope parts s0 ≡ faulty f
  matched_fault3 parts left right chosen rest found u s0 s1 s2 f shape e0 e1 e =
      (((matched_is parts left right chosen rest s0 shape) ∙ ap
      (λ o. and_then o (λ found s1. and_then (term definitions scope right s1)
      (λ u s2. and_then (process definitions (found.names ∷ scope) chosen s2) (λ p s3. and_then (continued definitions scope rest s3) (λ q s4. done (bind u found.steps p q) s4))))) e0) ∙ ap
      (λ o. and_then o (λ u s2. and_then (process definitions (found.names ∷ scope) chosen s2)
      (λ p s3. and_then (continued definitions scope rest s3) (λ q s4. done (bind u found.steps p q) s4)))) e1) ∙ ap
      (λ o. and_then o (λ p s3. and_then (continued definitions scope rest s3) (λ q s4. done (bind u found.steps p q) s4))) e

  pub matched_fault4 :
      (parts : Parts) (left : Parts) (right : Parts) (chosen : Parts) (rest : Parts) (found : Pattern) (u : Written) (p : Body) (s0 s1 s2 s3 : Signature) (f : NameFault)
      → IsComparison parts left right chosen rest → pattern_in definitions scope left s0 ≡ done found s1 → term definitions scope right s1 ≡ done u s2
      → process definitions (found.names ∷ scope) chosen s2 ≡ done p s3 → continued definitions scope rest s3 ≡ faulty f
      → matched definitions scope parts s0 ≡ faulty f
  matched_fault4 parts left right chosen rest found u p s0 s1 s2 s3 f shape e0 e1 e2 e =
      ((((matched_is parts left right chosen rest s0 shape) ∙ ap
      (λ o. and_then o (λ found s1. and_then (term definitions scope right s1)
      (λ u s2. and_then (process definitions (found.names ∷ scope) chosen s2) (λ p s3. and_then (continued definitions scope rest s3) (λ q s4. done (bind u found.steps p q) s4))))) e0) ∙ ap
      (λ o. and_then o (λ u s2. and_then (process definitions (found.names ∷ scope) chosen s2)
      (λ p s3. and_then (continued definitions scope rest s3) (λ q s4. done (bind u found.steps p q) s4)))) e1) ∙ ap
      (λ o. and_then o (λ p s3. and_then (continued definitions scope rest s3) (λ q s4. done (bind u found.steps p q) s4))) e2) ∙ ap (λ o. and_then o (λ q s4. done (bind u found.steps p q) s4)) e

  repeated_is :
      (parts : Parts) (caret number : Lexeme) (inside : Parts) (s : Signature) (b : Bool) → IsPrefixed parts caret number inside
      → is_number_of_copies number ≡ b
      → repeated definitions scope parts s ≡ (if b then and_then (process definitions scope inside s) (λ q after. done (copies (number_of number) q) after) else fault_at BadCopies number)
  repeated_is parts caret number inside s b shape is =
      ap (λ ps. repeated definitions scope ps s) shape.split
      ∙ ap (λ b. if b then and_then (process definitions scope inside s) (λ q after. done (copies (number_of number) q) after) else fault_at BadCopies number) is

  pub repeated_done :
      (parts : Parts) (caret number : Lexeme) (inside : Parts) (q : Body) (s after : Signature) (n : ℕ) (b : Body)
      → IsPrefixed parts caret number inside → true ≡ is_number_of_copies number → n ≡ number_of number
      → process definitions scope inside s ≡ done q after → b ≡ copies n q → repeated definitions scope parts s ≡ done b after
  repeated_done parts caret number inside q s after n b shape few is e made =
      repeated_is parts caret number inside s true shape (sym few)
      ∙ (ap (λ o. and_then o (λ q after. done (copies (number_of number) q) after)) e ∙ ap (λ x. done x after) (sym (made ∙ ap (λ m. copies m q) is)))

  pub repeated_fault :
      (parts : Parts) (caret number : Lexeme) (inside : Parts) (s : Signature) (f : NameFault) → IsPrefixed parts caret number inside
      → true ≡ is_number_of_copies number → process definitions scope inside s ≡ faulty f → repeated definitions scope parts s ≡ faulty f
  repeated_fault parts caret number inside s f shape few e =
      repeated_is parts caret number inside s true shape (sym few) ∙ ap (λ o. and_then o (λ q after. done (copies (number_of number) q) after)) e

  pub repeated_bad :
      (parts : Parts) (caret number : Lexeme) (inside : Parts) (s : Signature) → IsPrefixed parts caret number inside
      → false ≡ is_number_of_copies number → repeated definitions scope parts s ≡ fault_at BadCopies number
  repeated_bad parts caret number inside s shape many = repeated_is parts caret number inside s false shape (sym many)

  pub continued_is : (parts inside : Parts) (s : Signature) (o : Outcome Signature Body) → IsContinued parts inside → process definitions scope inside s ≡ o → continued definitions scope parts s ≡ o
  continued_is parts inside s o shape e = ap (λ ps. continued definitions scope ps s) shape.split ∙ e

  process_is :
      (parts : Parts) (first : Lexeme) (rest : Parts) (s : Signature) (start : Start) → parts ≡ token first rest → start ≡ start_of first.kind
      → process definitions scope parts s ≡ by_start start (call_as first (count_inner rest) (terms definitions scope rest s) (meaning s definitions scope first.text))
      (grouped definitions scope rest s) (repeated definitions scope rest s) (restricted definitions scope rest s) (received definitions scope rest s) (sent definitions scope rest s)
      (compared definitions scope rest s) (matched definitions scope rest s) (done nil s)
  process_is parts first rest s start split is =
      ap (λ ps. process definitions scope ps s) split
      ∙ ap (λ x. by_start x (call_as first (count_inner rest) (terms definitions scope rest s) (meaning s definitions scope first.text)) (grouped definitions scope rest s)
      (repeated definitions scope rest s) (restricted definitions scope rest s) (received definitions scope rest s) (sent definitions scope rest s) (compared definitions scope rest s)
      (matched definitions scope rest s) (done nil s)) (sym is)

  pub begun_call :
      (parts : Parts) (first : Lexeme) (rest : Parts) (s : Signature) (o : Outcome Signature Body) → parts ≡ token first rest
      → starts.Call ≡ start_of first.kind
      → call_as first (count_inner rest) (terms definitions scope rest s) (meaning s definitions scope first.text) ≡ o
      → process definitions scope parts s ≡ o
  begun_call parts first rest s o split is e = process_is parts first rest s starts.Call split is ∙ e

  pub begun_group :
      (parts : Parts) (first : Lexeme) (rest : Parts) (s : Signature) (o : Outcome Signature Body) → parts ≡ token first rest
      → starts.Group ≡ start_of first.kind → grouped definitions scope rest s ≡ o → process definitions scope parts s ≡ o
  begun_group parts first rest s o split is e = process_is parts first rest s starts.Group split is ∙ e

  pub begun_copies :
      (parts : Parts) (first : Lexeme) (rest : Parts) (s : Signature) (o : Outcome Signature Body) → parts ≡ token first rest
      → starts.Copies ≡ start_of first.kind → repeated definitions scope rest s ≡ o → process definitions scope parts s ≡ o
  begun_copies parts first rest s o split is e = process_is parts first rest s starts.Copies split is ∙ e

  pub begun_name :
      (parts : Parts) (first : Lexeme) (rest : Parts) (s : Signature) (o : Outcome Signature Body) → parts ≡ token first rest
      → starts.Name ≡ start_of first.kind → restricted definitions scope rest s ≡ o → process definitions scope parts s ≡ o
  begun_name parts first rest s o split is e = process_is parts first rest s starts.Name split is ∙ e

  pub begun_input :
      (parts : Parts) (first : Lexeme) (rest : Parts) (s : Signature) (o : Outcome Signature Body) → parts ≡ token first rest
      → starts.Input ≡ start_of first.kind → received definitions scope rest s ≡ o → process definitions scope parts s ≡ o
  begun_input parts first rest s o split is e = process_is parts first rest s starts.Input split is ∙ e

  pub begun_output :
      (parts : Parts) (first : Lexeme) (rest : Parts) (s : Signature) (o : Outcome Signature Body) → parts ≡ token first rest
      → starts.Output ≡ start_of first.kind → sent definitions scope rest s ≡ o → process definitions scope parts s ≡ o
  begun_output parts first rest s o split is e = process_is parts first rest s starts.Output split is ∙ e

  pub begun_test :
      (parts : Parts) (first : Lexeme) (rest : Parts) (s : Signature) (o : Outcome Signature Body) → parts ≡ token first rest
      → starts.Test ≡ start_of first.kind → compared definitions scope rest s ≡ o → process definitions scope parts s ≡ o
  begun_test parts first rest s o split is e = process_is parts first rest s starts.Test split is ∙ e

  pub begun_match :
      (parts : Parts) (first : Lexeme) (rest : Parts) (s : Signature) (o : Outcome Signature Body) → parts ≡ token first rest
      → starts.Match ≡ start_of first.kind → matched definitions scope rest s ≡ o → process definitions scope parts s ≡ o
  begun_match parts first rest s o split is e = process_is parts first rest s starts.Match split is ∙ e

  pub begun_nothing :
      (parts : Parts) (first : Lexeme) (rest : Parts) (s : Signature) (o : Outcome Signature Body) → parts ≡ token first rest
      → starts.Nothing ≡ start_of first.kind → done nil s ≡ o → process definitions scope parts s ≡ o
  begun_nothing parts first rest s o split is e = process_is parts first rest s starts.Nothing split is ∙ e

  pub not_begun : (parts : Parts) (s : Signature) → HasNoToken parts → process definitions scope parts s ≡ done nil s
  not_begun none s h = refl
  not_begun (token l ps) s h = absurd h
  not_begun (inner p i ps) s h = refl

  pub grouped_none : (parts : Parts) (s : Signature) (b : Body) → IsNoGroup parts → b ≡ nil → grouped definitions scope parts s ≡ done b s
  grouped_none parts s b h e = h.groups definitions scope s ∙ ap (λ x. done x s) (sym e)

  pub continued_none : (parts : Parts) (s : Signature) (b : Body) → IsEnded parts → b ≡ nil → continued definitions scope parts s ≡ done b s
  continued_none parts s b h e = h.continues definitions scope s ∙ ap (λ x. done x s) (sym e)

  pub repeated_none : (parts : Parts) (s : Signature) (b : Body) → IsNotPrefixed parts → b ≡ nil → repeated definitions scope parts s ≡ done b s
  repeated_none parts s b h e = h.repeats definitions scope s ∙ ap (λ x. done x s) (sym e)

  pub restricted_none : (parts : Parts) (s : Signature) (b : Body) → IsNotPrefixed parts → b ≡ nil → restricted definitions scope parts s ≡ done b s
  restricted_none parts s b h e = h.restricts definitions scope s ∙ ap (λ x. done x s) (sym e)

  pub received_none : (parts : Parts) (s : Signature) (b : Body) → IsNoExchange parts → b ≡ nil → received definitions scope parts s ≡ done b s
  received_none parts s b h e = h.receives definitions scope s ∙ ap (λ x. done x s) (sym e)

  pub sent_none : (parts : Parts) (s : Signature) (b : Body) → IsNoExchange parts → b ≡ nil → sent definitions scope parts s ≡ done b s
  sent_none parts s b h e = h.sends definitions scope s ∙ ap (λ x. done x s) (sym e)

  pub compared_none : (parts : Parts) (s : Signature) (b : Body) → IsNoComparison parts → b ≡ nil → compared definitions scope parts s ≡ done b s
  compared_none parts s b h e = h.compares definitions scope s ∙ ap (λ x. done x s) (sym e)

  pub matched_none : (parts : Parts) (s : Signature) (b : Body) → IsNoComparison parts → b ≡ nil → matched definitions scope parts s ≡ done b s
  matched_none parts s b h e = h.matches definitions scope s ∙ ap (λ x. done x s) (sym e)

pub ruleset for_grouped = (grouped_none, grouped_done, grouped_fault1)

pub ruleset for_restricted = (restricted_none, restricted_done, restricted_fault1)

pub ruleset for_received = (received_none, received_done, received_fault1, received_fault2, received_fault3)

pub ruleset for_sent = (sent_none, sent_done, sent_fault1, sent_fault2, sent_fault3)

pub ruleset for_compared = (compared_none, compared_done, compared_fault1, compared_fault2, compared_fault3, compared_fault4)

pub ruleset for_matched = (matched_none, matched_done, matched_fault1, matched_fault2, matched_fault3, matched_fault4)

pub ruleset for_repeated = (repeated_none, repeated_done, repeated_fault, repeated_bad)

pub ruleset for_continued = (continued_none, continued_is)

pub ruleset for_process = (not_begun, begun_call, begun_group, begun_copies, begun_name, begun_input, begun_output, begun_test, begun_match, begun_nothing)
