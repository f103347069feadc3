-- The loop of `tails`: as many bytes are left to be taken as turns. Assumes nothing.
use Rattle.std.proofs.Common.{◌≡◌, ◌-◌, ◌≤◌, length}
use Rattle.definition.specs.Text.{tails}
use Rattle.text_cursor.specs.Reads.{rest}
use Rattle.text_utf8.proofs.tails.Given as goal

abbrev pub invariant-loop : goal.invariant-loop
invariant-loop l = record {
  text : l.text.text ≡ l.fn.text.text;
  onward : l.fn.text.at ≤ l.text.at;
  inside : l.fn.text.at ≤ length l.fn.text.text.now → l.text.at ≤ length l.fn.text.text.now;
  same : tails l.n (rest l.fn.text) ≡ tails (l.n - l.counter) (rest l.text);
}
