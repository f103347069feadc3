use Rattle.text_output.specs.Appends.{appended_is, appended_nothing}
use Rattle.print_names.proofs.Lists.{sep_first, sep_later}
use Rattle.print_names.proofs.put_sep.Goals as goal

pub returns-then-i-ne0 : goal.returns-then-i-ne0
returns-then-i-ne0 c = appended_is (sep_later _ _ c.if-i-ne0.true) c.put_text.ensures

pub returns-else-i-ne0 : goal.returns-else-i-ne0
returns-else-i-ne0 c = appended_is (sep_first _ _ c.if-i-ne0.false) (appended_nothing c.args.out.now)
