use Rattle.std.proofs.Common.{sym, ◌∙◌}
use Rattle.texts.proofs.Cuts.{cut_none, cut_at}
use Rattle.texts.proofs.cut.cut_line.Goals as goal

pub returns-in-Some : goal.returns-in-Some
returns-in-Some c = cut_at c.args.text.now c.in-Some.n (sym c.line_end.ensures ∙ c.in-Some.is)

pub returns-in-None : goal.returns-in-None
returns-in-None c = cut_none c.args.text.now (sym c.line_end.ensures ∙ c.in-None.is)
