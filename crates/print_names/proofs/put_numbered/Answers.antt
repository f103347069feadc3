use Rattle.std.proofs.Common.{ap, ◌∙◌}
use Rattle.definition.specs.Base.{bytes}
use Rattle.text_output.specs.Appends.{appended_is}
use Rattle.operator_names.proofs.FixedNames.{numbered_text}
use Rattle.print_names.specs.Texts.{text_of}
use Rattle.print_names.proofs.put_numbered.Goals as goal

pub returns : goal.returns
unfolding text_of
returns c = appended_is (c.fixed_name.ensures ∙ ap bytes (numbered_text c.args.n)) c.put.ensures
