use Rattle.dps_words.specs.Words.{texts, plan_model}
use Rattle.deepsec_main.proofs.Completing.{complete, one_verdict}
use Rattle.deepsec_main.proofs.Counting.{caused_kept}
use Rattle.deepsec_main.proofs.Reporting.{own_status, equivalent_only, theory_only, made_only, attack_only, trace_only, refused_only, words_only, long_only, follows, used_files, unused_files}
use Rattle.deepsec_main.proofs.run.run_one.Goals as goal

pub returns : goal.returns
returns g c =
    let words = texts c.args.words.now in
    let old = g.F.Files.state c.args.files.now in
    let new = g.F.Files.state c.answer-reached.new.files in
    let written = g.W.Sink.written in
    let faults = g.W.Sink.faults in
    let before = c.args.sink.now in
    let after = c.report.new.sink in
    let reached = c.report.result.0 in
    let status = c.report.result.1.code in
    let sent = c.report.ensures.reported in
    let caused = caused_kept old new words c.answer-reached.result reached c.report.ensures.kept c.answer-reached.ensures.caused in
    let one = one_verdict c.no_text_means_two_problems.ensures c.no_text_has_theory_and_none.ensures c.no_text_is_refused_and_judged.ensures c.no_text_is_equivalent_and_attacked.ensures
    (plan_model words) in
    record {
      equivalent = equivalent_only old new words written faults before after reached status caused sent;
      not_equivalent = attack_only old new words written faults before after reached status caused sent;
      theory_accepted = theory_only old new words written faults before after reached status caused sent;
      replayed = trace_only old new words written faults before after reached status caused sent;
      generated = made_only old new words written faults before after reached status caused sent;
      refused = refused_only old new words written faults before after reached status caused sent;
      counts = follows old new words written faults before after reached status caused sent;
      words_refused = words_only old new words written faults before after reached status caused sent;
      too_long = long_only old new words written faults before after reached status caused sent;
      answer = (reached, caused, sent);
      untouched = unused_files old new words written faults before after reached status caused sent;
      used = used_files old new words written faults before after reached status caused sent;
      kept = c.answer-reached.ensures.kept;
      complete = complete old new words one (faults before) (faults after) reached status caused (own_status old new words written faults before after reached status caused sent);
    }
