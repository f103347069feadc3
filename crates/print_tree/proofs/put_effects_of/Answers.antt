use Rattle.text_output.specs.Appends.{appended_is}
use Rattle.print_tree.proofs.LeafLaws.{effects_are}
use Rattle.print_tree.proofs.put_effects_of.Goals as goal

pub returns : goal.returns
returns c = appended_is (effects_are _ _ c.field-throws.ensures.0 c.field-asynchronous.ensures.0) c.put_effects.ensures
