use Rattle.print_tree.proofs.RenderLaws.{whole_alone, whole_suffixed}
use Rattle.print_tree.proofs.print_whole.Goals as goal

pub returns-then-suffix-eq0 : goal.returns-then-suffix-eq0
returns-then-suffix-eq0 c = whole_alone c.if-suffix-eq0.true c.print.ensures

pub returns : goal.returns
returns c = whole_suffixed c.if-suffix-eq0.false c.print.ensures c.put_text.ensures c.put.ensures c.put_text-2.ensures
