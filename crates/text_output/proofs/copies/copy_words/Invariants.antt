use Rattle.std.proofs.Common.{◌≡◌, ◌≤◌, ◌+◌, ◌*◌, length}
use Rattle.text_output.specs.Copied.{copied}
use Rattle.text_output.proofs.copies.copy_words.Given as goal

-- k words are copied
abbrev pub invariant-loop-k : goal.invariant-loop-k
invariant-loop-k l = (l.from + 8 * l.k ≤ l.to) × (length l.out ≡ length l.fn.out) × (l.out ≡ copied l.fn.out l.at l.text l.from (l.from + 8 * l.k))
