-- The loop of `Reader::natural`: the digits before the place have this value. Assumes nothing.
use Rattle.std.proofs.Common.{◌≡◌, ◌+◌, ◌≤◌, ◌<◌, ◌-◌, ◌^◌, length}
use Rattle.definition.specs.Text.{natural, digits}
use Rattle.text_cursor.specs.Reads.{rest}
use Rattle.text_cursor.proofs.Reader.natural.Given as goal

abbrev pub invariant-loop-d : goal.invariant-loop-d
invariant-loop-d l = record {
  small : l.value < 2 ^ 64;
  text : l.self.text ≡ l.fn.self.text;
  inside : l.self.at ≤ length l.self.text.now;
  onward : l.fn.self.at + 1 ≤ l.self.at;
  same : natural (rest l.fn.self) ≡ digits l.value (rest l.self);
}

abbrev pub decreases-loop-d : goal.decreases-loop-d
decreases-loop-d l = length l.self.text.now - l.self.at
