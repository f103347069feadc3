use Rattle.std.proofs.Common.{refl}
use Rattle.print_labels.proofs.LabelLaws.{next_some}
use Rattle.print_labels.proofs.Labels.next.Goals as goal

pub returns : goal.returns
returns c = next_some c.requires c.if-self-eq0.false c.get.ensures.0 refl
