use Rattle.std.proofs.Common.{List, ℕ, refl, inl, inr, ap, ◌∙◌, subst, Contains, IsNone}
use Rattle.dps_io.specs.Held.{HeldFile, held, bytes_named}
use Rattle.dps_io.proofs.memory.MemFilesFiles.open.Goals as goal
use Rattle.dps_io.proofs.memory.MemFilesFiles.open.Goals.{then-not-is_listed+in_default, else-not-is_listed}

pub returns-clause-fails : goal.returns-clause-fails
returns-clause-fails c = (
  (λ _. elim c.if-not-is_listed.branch [
    | then-not-is_listed+in_default w ↦ inr (
        let P : List HeldFile → Type 0 = λ files. IsNone (bytes_named files c.args.name.now) in
        subst P (ap held w.deref-then-not-is_listed.ensures.value ∙ ap (λ value. value.files) c.self.view_is) (w.in_default.ensures.none.0 refl))
    | else-not-is_listed w ↦ inl (
        let P : List ℕ → Type 0 = λ failing. Contains failing c.saturating_add-self-inside.result in
        subst P (c.deref.ensures.value ∙ ap (λ value. value.failing) c.self.view_is) (w.if-not-is_listed.ensures.0 refl))
  ]),
  (λ _. refl),
)
