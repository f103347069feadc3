use Rattle.std.proofs.Common.{List, subst, ◌≤◌, ◌+◌, length, arith}
use Rattle.definition.specs.Base.{Name}
use Rattle.definition.specs.Words as W
use Rattle.text_words.proofs.Parts.{part_spanned}
use Rattle.text_words.proofs.Loops.{noting_first, noting_kept, noting_open, noting_last}
use Rattle.text_words.proofs.note.Goals as goal
use Rattle.text_words.proofs.note.Goals.{in-Some, in_default}

pub loop-at-init : goal.loop-at-init
loop-at-init g c = noting_first (λ k words. g.K.Known.stands c.args.text.now k words) c.args.text.now c.args.from c.args.to c.args.known.now

pub loop-at-preserved : goal.loop-at-preserved
loop-at-preserved g c =
    let text = c.args.text.now in
    let stands : g.row.K.Denot → List Name → Type 0 = λ k words. g.K.Known.stands text k words in
    let opened : c.loop-at.start ≤ c.loop-at.at = c.loop-at.invariant.opened in
    elim c.match-next_word.branch [
      | in-Some w ↦
          let inside : w.new.result.start + w.new.result.length ≤ length text = omega (arith, w.new.ensures.0, w.new.ensures.1) in
          rw (w.known-is, w.start-is) (noting_kept stands text c.args.from c.args.to c.loop-at.invariant c.loop-at-test.true c.requires.1 w.in-Some.ensures
          (λ words h. subst (λ (a : Name). stands w.keep.new.self (W.keep a words)) (part_spanned text w.new.ensures opened) (w.keep.ensures text words inside h)))
      | in_default w ↦ rw (w.known-is, w.start-is) (noting_open stands text c.args.from c.args.to c.loop-at.invariant c.loop-at-test.true c.requires.1 w.in_default.ensures)
    ]

pub returns : goal.returns
returns g c =
    let text = c.args.text.now in
    let stands : g.row.K.Denot → List Name → Type 0 = λ k words. g.K.Known.stands text k words in
    let opened : c.loop-at.start ≤ c.args.to = omega (arith, c.loop-at.invariant.opened) in
    let inside : c.new-2.result.start + c.new-2.result.length ≤ length text = omega (arith, c.new-2.ensures.0, c.new-2.ensures.1) in
    noting_last stands text c.args.from c.args.to c.loop-at.invariant (omega arith)
    (λ words h. subst (λ (a : Name). stands c.keep-2.new.self (W.keep a words)) (part_spanned text c.new-2.ensures opened) (c.keep-2.ensures text words inside h))
