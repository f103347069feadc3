use Rattle.std.proofs.Common.{◌≡◌, Bool, true, false, not, List, length, refl, ap, subst, ◌∙◌, ℕ, arith}
use denote.Ref.{Bor}
use Rattle.definition.specs.Base.{Name}
use Rattle.definition.specs.Words as W
use Rattle.text_words.specs.Table.{part}
use Rattle.text_identifiers.specs.Rounds.{round, known_after}
use Rattle.text_identifiers.proofs.Steps.{refused_as, piece_closed, piece_literal}
use Rattle.text_identifiers.proofs.Rounds.{after_noted, after_kept, tracked_first, tracked_next, tracked_refused, tracked_empty, tracked_closed, tracked_last}
use Rattle.text_identifiers.proofs.rounds_of.Goals as goal
use Rattle.text_identifiers.proofs.rounds_of.Goals.{then-not-punycoded, else-not-punycoded}

not_flip : {b d : Bool} → not b ≡ d → b ≡ not d
not_flip {b = true} e = ap not e
not_flip {b = false} e = ap not e

pub loop-e-init : goal.loop-e-init
loop-e-init g c =
    let r = c.args.text.now in
    record {
      text = refl;
      tracked = λ words h. tracked_first (λ k ws. g.K.Known.stands r.text.now k ws) c.args.punycoded c.args.subs r words c.args.known.now h;
    }

pub returns-in_err-e : goal.returns-in_err-e
returns-in_err-e g c words h f l =
    let r = c.args.text.now in
    let t = c.loop-e.invariant.tracked words h in
    rw (refused_as c.from_residual.result c.from_residual.ensures.1)
    (tracked_refused (λ k ws. g.K.Known.stands r.text.now k ws) c.args.punycoded c.args.subs r words c.loop-e.text c.round_of.new.text c.loop-e.invariant.text t (c.count.ensures r.text.now t.words t.met) f l c.in_err-e.ensures)

pub returns-then-e : goal.returns-then-e
returns-then-e g c words h f l =
    let r = c.args.text.now in
    let t = c.loop-e.invariant.tracked words h in
    tracked_empty (λ k ws. g.K.Known.stands r.text.now k ws) c.args.punycoded c.args.subs r words c.loop-e.text c.round_of.new.text c.loop-e.invariant.text t (c.count.ensures r.text.now t.words t.met) f l c.if-e.true
    (piece_closed (round c.count.result c.loop-e.more c.args.punycoded c.loop-e.empty) c.loop-e.text c.round_of.new.text c.in_ok-e.field-0 c.in-Closed.is c.in_ok-e.ensures)

pub returns-in-Closed : goal.returns-in-Closed
returns-in-Closed g c words h f l =
    let r = c.args.text.now in
    let t = c.loop-e.invariant.tracked words h in
    tracked_closed (λ k ws. g.K.Known.stands r.text.now k ws) c.args.punycoded c.args.subs r words c.loop-e.text c.round_of.new.text c.loop-e.invariant.text t (c.count.ensures r.text.now t.words t.met) f l c.if-e.false
    (piece_closed (round c.count.result c.loop-e.more c.args.punycoded c.loop-e.empty) c.loop-e.text c.round_of.new.text c.in_ok-e.field-0 c.in-Closed.is c.in_ok-e.ensures)

pub note-requires : goal.note-requires
note-requires g c =
    let t = piece_literal (round c.count.result c.loop-e.more c.args.punycoded c.loop-e.empty) c.loop-e.text c.round_of.new.text c.in_ok-e.field-0 c.in-Literal.is c.in_ok-e.ensures in
    (omega (arith, t.lies.some), rw t.text t.lies.inside, rw (t.text ∙ c.loop-e.invariant.text) c.requires.0)

pub returns-then-not-letters : goal.returns-then-not-letters
returns-then-not-letters g c words h f l =
    let r = c.args.text.now in
    let t = piece_literal (round c.count.result c.loop-e.more c.args.punycoded c.loop-e.empty) c.loop-e.text c.round_of.new.text c.in_ok-e.field-0 c.in-Literal.is c.in_ok-e.ensures in
    let slice = part r.text.now c.in-Literal.bytes.from c.in-Literal.bytes.to in
    let after : (ws : List Name) → g.K.Known.stands r.text.now c.loop-e.known ws → g.K.Known.stands r.text.now c.if-not-punycoded.known (known_after W.note_words c.args.punycoded slice ws) = elim c.if-not-punycoded.branch [
      | then-not-punycoded w ↦ after_noted (λ k ws. g.K.Known.stands r.text.now k ws) slice w.if-not-punycoded.true w.known-is
          (subst (λ (s : Bor (List ℕ)). (ws : List Name) → g.K.Known.stands s.now c.loop-e.known ws → g.K.Known.stands s.now w.note.new.known (W.note_words (part s.now c.in-Literal.bytes.from c.in-Literal.bytes.to) ws)) (t.text ∙ c.loop-e.invariant.text) w.note.ensures)
      | else-not-punycoded w ↦ after_kept (λ k ws. g.K.Known.stands r.text.now k ws) slice w.if-not-punycoded.false w.known-is
    ] in
    let k = c.loop-e.invariant.tracked words h in
    tracked_last (λ k ws. g.K.Known.stands r.text.now k ws) c.args.punycoded c.args.subs r words c.loop-e.text c.round_of.new.text c.loop-e.invariant.text k (c.count.ensures r.text.now k.words k.met) f l (not_flip c.if-not-letters.true) t after

pub loop-e-smaller : goal.loop-e-smaller
loop-e-smaller g c =
    let t = piece_literal (round c.count.result c.loop-e.more c.args.punycoded c.loop-e.empty) c.loop-e.text c.round_of.new.text c.in_ok-e.field-0 c.in-Literal.is c.in_ok-e.ensures in
    let n : length c.round_of.new.text.text.now ≡ length c.loop-e.text.text.now = ap (λ (s : Bor (List ℕ)). length s.now) t.text in
    omega (arith, n, t.here, t.lies.onward, t.lies.some, t.lies.inside)

pub loop-e-preserved : goal.loop-e-preserved
loop-e-preserved g c =
    let r = c.args.text.now in
    let t = piece_literal (round c.count.result c.loop-e.more c.args.punycoded c.loop-e.empty) c.loop-e.text c.round_of.new.text c.in_ok-e.field-0 c.in-Literal.is c.in_ok-e.ensures in
    let slice = part r.text.now c.in-Literal.bytes.from c.in-Literal.bytes.to in
    let after : (ws : List Name) → g.K.Known.stands r.text.now c.loop-e.known ws → g.K.Known.stands r.text.now c.if-not-punycoded.known (known_after W.note_words c.args.punycoded slice ws) = elim c.if-not-punycoded.branch [
      | then-not-punycoded w ↦ after_noted (λ k ws. g.K.Known.stands r.text.now k ws) slice w.if-not-punycoded.true w.known-is
          (subst (λ (s : Bor (List ℕ)). (ws : List Name) → g.K.Known.stands s.now c.loop-e.known ws → g.K.Known.stands s.now w.note.new.known (W.note_words (part s.now c.in-Literal.bytes.from c.in-Literal.bytes.to) ws)) (t.text ∙ c.loop-e.invariant.text) w.note.ensures)
      | else-not-punycoded w ↦ after_kept (λ k ws. g.K.Known.stands r.text.now k ws) slice w.if-not-punycoded.false w.known-is
    ] in
    record {
      text = t.text ∙ c.loop-e.invariant.text;
      tracked = λ words h.
          let k = c.loop-e.invariant.tracked words h in
          tracked_next (λ k ws. g.K.Known.stands r.text.now k ws) c.args.punycoded c.args.subs r words c.loop-e.text c.round_of.new.text c.loop-e.invariant.text k (c.count.ensures r.text.now k.words k.met) (not_flip c.if-not-letters.false) t after;
    }
