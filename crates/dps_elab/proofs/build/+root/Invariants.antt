use Rattle.dps_elab.proofs.build.+root.Given as goal

abbrev pub decreases-root : goal.decreases-root
decreases-root l = l.frame.end
