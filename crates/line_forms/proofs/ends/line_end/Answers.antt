use Rattle.std.proofs.Common.{sym, ◌∙◌}
use Rattle.line_forms.proofs.ends.Clear.{ends_at, ends_with}
use Rattle.line_forms.proofs.ends.line_end.Goals as goal

pub returns-in-Some : goal.returns-in-Some
returns-in-Some c = ends_at _ _ c.requires _ (sym c.first_newline.ensures ∙ c.in-Some.is)

pub returns-in-None : goal.returns-in-None
returns-in-None c = ends_with _ _ c.requires (sym c.first_newline.ensures ∙ c.in-None.is)
