use Rattle.std.proofs.Common.{rules, ap, sym, Some, arith, codes}
use Rattle.std.proofs.lemmas.Slice.Eq.{text_from_reads}
use Rattle.dps_lex.proofs.lexeme.kind_of_name.Goals as goal

pub returns-in-private : goal.returns-in-private
returns-in-private c = ap Some (sym (text_from_reads c.args.name.now (codes "private") (omega arith) (search rules)))

pub returns-in-116 : goal.returns-in-116
returns-in-116 c = ap Some (sym (text_from_reads c.args.name.now (codes "trace_equiv") (omega arith) (search rules)))
