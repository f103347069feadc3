use Rattle.std.proofs.Common.{List, ℕ, suc, length, sym, subst, ◌∙◌, not, true, false, arith}
use denote.Ref.{Bor}
use Rattle.definition.specs.Words as W
use Rattle.text_cursor.specs.Reads.{rest}
use Rattle.text_identifiers.specs.Rounds.{named}
use Rattle.text_identifiers.specs.Identifiers.{Finds}
use Rattle.text_identifiers.proofs.Steps.{looked}
use Rattle.text_identifiers.proofs.OneLiteral.{no_zero}
use Rattle.text_identifiers.proofs.Identifying.{first_plain, first_zero, fuel_enough, finds_on}
use Rattle.text_identifiers.proofs.read.Goals as goal

pub plain-requires : goal.plain-requires
plain-requires g c =
    let l = c.if-not-next_if.ensures in
    (rw l.text c.requires.0, no_zero l, rw l.text c.requires.1)

pub returns-then-not-next_if : goal.returns-then-not-next_if
returns-then-not-next_if g c words h =
    let r = c.args.text.now in
    let mid = c.next_if.new.self in
    let l = c.if-not-next_if.ensures in
    let n : ℕ = suc (length (rest r)) in
    finds_on (g.K.Known.stands r.text.now c.plain.new.known) words r mid c.plain.new.text c.plain.result (first_plain length W.note_words words (rest r) l.is) l.text (omega (arith, l.here))
    (subst (λ (s : Bor (List ℕ)). Finds (g.K.Known.stands s.now c.plain.new.known) words (named length W.note_words n false false words true (rest mid)) mid c.plain.new.text c.plain.result) l.text
    (c.plain.ensures words (subst (λ (s : Bor (List ℕ)). g.K.Known.stands s.now c.args.known.now words) (sym l.text) h) n (fuel_enough l.text (omega (arith, l.here)))))

pub returns : goal.returns
returns g c words h =
    let r = c.args.text.now in
    let one = c.if-not-next_if.ensures in
    let two = looked c.next_if-punycoded.result one.inside c.next_if-punycoded.ensures in
    let mid = c.next_if-punycoded.new.self in
    let n : ℕ = suc (length (rest r)) in
    let p = c.next_if-punycoded.result in
    finds_on (g.K.Known.stands r.text.now c.rounds_of.new.known) words r mid c.rounds_of.new.text c.rounds_of.result (first_zero length W.note_words words (rest r) one.is two.is) (two.text ∙ one.text) (omega (arith, one.onward, two.onward))
    (subst (λ (s : Bor (List ℕ)). Finds (g.K.Known.stands s.now c.rounds_of.new.known) words (named length W.note_words n (not p) p words true (rest mid)) mid c.rounds_of.new.text c.rounds_of.result) (two.text ∙ one.text)
    (c.rounds_of.ensures words (subst (λ (s : Bor (List ℕ)). g.K.Known.stands s.now c.args.known.now words) (sym (two.text ∙ one.text)) h) n (fuel_enough (two.text ∙ one.text) (omega (arith, one.onward, two.onward)))))
