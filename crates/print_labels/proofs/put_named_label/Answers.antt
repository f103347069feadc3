use Rattle.print_labels.proofs.LabelLaws.{named_label}
use Rattle.print_labels.proofs.put_named_label.Goals as goal

pub returns : goal.returns
returns c = named_label c.put_named.ensures c.put_text.ensures
