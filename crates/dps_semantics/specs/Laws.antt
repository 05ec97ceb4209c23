-- A search finds just the settled ends of runs.
use Rattle.std.specs.Prelude.{List}
use Rattle.dps_terms.specs.Tree.{Tree}
use Rattle.dps_signature.specs.Signature.{Signature}
use Rattle.dps_theory.specs.Theory.{Theory}
use Rattle.dps_process.specs.Process.{Process}
use Rattle.dps_process.specs.Models.{Model}
use Rattle.dps_process.specs.Steps.{Config, Label, AreOneBag}
use Rattle.dps_process.specs.Traces.{Runs}
use Rattle.dps_semantics.specs.Settling.{IsSettled}
use Rattle.dps_semantics.specs.Coming.{Finds}

-- each settled end of a run is found
abbrev pub SettledEndsAreFound : Type 0
SettledEndsAreFound =
    (model : Model) (signature : Signature) (theory : Theory) (c d : Config) (word : List Label)
    → Runs model signature theory c word d
    → IsSettled d
    → Finds model signature theory c.parts c.frame word d.parts d.frame

-- what is found is the end of a run, with its parts in some order
abbrev pub WhatIsFoundIsReached : Type 0
WhatIsFoundIsReached =
    (model : Model) (signature : Signature) (theory : Theory) (ps es : List Process) (frame last : List Tree) (word : List Label)
    → Finds model signature theory ps frame word es last
    → (d : Config) × Runs model signature theory (record { parts = ps; frame = frame }) word d × AreOneBag (record { parts = es; frame = last }) d
