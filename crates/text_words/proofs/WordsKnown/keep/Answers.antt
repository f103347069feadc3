use Rattle.std.proofs.Common.{◌≡◌, ◌<◌, ◌&&◌, leb, ltb, ap, sym, ◌∙◌, ℕ, length, arith}
use mathlib.Core.Bool.{and-eq-true_iff}
use borrow.Author.Tests.{ltb-true}
use Rattle.text_words.specs.Table.{spans_of}
use Rattle.text_words.proofs.Keeping.{Sized, spans_length, lists_same, lists_stored}
use Rattle.text_words.proofs.WordsKnown.keep.Goals as goal

pub returns-then-is_kept : goal.returns-then-is_kept
returns-then-is_kept c text words e h =
    let q : c.is_kept.result ≡ (leb 2 c.args.word.length && ltb c.args.self.now.count 26) = c.is_kept.ensures ∙ ap (λ (n : ℕ). leb 2 c.args.word.length && ltb n 26) c.len.ensures in
    let few : c.args.self.now.count < 26 = ltb-true _ 26 ((and-eq-true_iff (leb 2 c.args.word.length) (ltb c.args.self.now.count 26)).0 (sym q ∙ c.if-is_kept.true)).1 in
    let sized : Sized c.args.self.now = record { starts = omega arith; lengths = omega arith } in
    let room : c.args.self.now.count < length (spans_of c.args.self.now) = omega (arith, spans_length c.args.self.now sized) in
    lists_stored text c.args.word e h q c.push.new.self c.push.ensures c.if-is_kept.true room

pub returns-else-is_kept : goal.returns-else-is_kept
returns-else-is_kept c text words e h =
    let q : c.is_kept.result ≡ (leb 2 c.args.word.length && ltb c.args.self.now.count 26) = c.is_kept.ensures ∙ ap (λ (n : ℕ). leb 2 c.args.word.length && ltb n 26) c.len.ensures in
    lists_same text c.args.word e h q c.if-is_kept.false
