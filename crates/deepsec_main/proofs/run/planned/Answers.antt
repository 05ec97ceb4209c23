use Rattle.deepsec_main.proofs.run.planned.Goals as goal

pub returns-in-Gen-clause-caused : goal.returns-in-Gen-clause-caused
returns-in-Gen-clause-caused g c = c.generate.ensures (g.F.Files.state c.args.files.now)
