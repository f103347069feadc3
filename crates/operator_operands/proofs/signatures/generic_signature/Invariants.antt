-- The loop of `generic_signature`: what is left to count. Assumes nothing.
use Rattle.std.proofs.Common.{◌≡◌, ◌≤◌, ◌-◌}
use Rattle.definition.specs.Budget.{most_wraps}
use Rattle.definition.specs.Operators.{counts}
use Rattle.text_cursor.specs.Reads.{rest}
use Rattle.operator_operands.proofs.signatures.generic_signature.Given as goal

abbrev pub invariant-loop : goal.invariant-loop
invariant-loop l = record {
  text : l.text.text ≡ l.fn.text.text;
  onward : l.fn.text.at ≤ l.text.at;
  same : counts most_wraps 0 (rest l.fn.text) ≡ counts (most_wraps - l.counter) l.params (rest l.text);
}
