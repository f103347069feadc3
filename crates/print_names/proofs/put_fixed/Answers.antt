use Rattle.std.proofs.Common.{sym, ap, ◌∙◌}
use Rattle.definition.specs.Base.{bytes}
use Rattle.text_output.specs.Appends.{appended_is, appended_nothing}
use Rattle.operator_names.proofs.FixedNames.{numbered_fixed, fixed_past}
use Rattle.print_names.proofs.put_fixed.Goals as goal

pub returns-then-n-lt-NAMES : goal.returns-then-n-lt-NAMES
returns-then-n-lt-NAMES c = appended_is (c.fixed_name.ensures ∙ ap bytes (numbered_fixed c.args.n c.if-n-lt-NAMES.true)) c.put.ensures

pub returns-else-n-lt-NAMES : goal.returns-else-n-lt-NAMES
unfolding bytes
returns-else-n-lt-NAMES c = appended_is (sym (ap bytes (fixed_past c.args.n c.if-n-lt-NAMES.false))) (appended_nothing c.args.out.now)
