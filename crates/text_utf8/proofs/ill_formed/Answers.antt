use Rattle.std.proofs.Common.{rules, arith, List, ℕ, ◌+◌, ap, sym, ◌∙◌, drop, Bor}
use Rattle.std.proofs.Math.Option.{some}
use Rattle.definition.specs.Text.{character}
use Rattle.text_utf8.proofs.Characters.{scan_first, scan_past, scan_more, scan_bad}
use Rattle.text_utf8.proofs.ill_formed.Goals as goal

pub loop-b-init : goal.loop-b-init
loop-b-init c =
    let h = c.past-at.ensures in
    scan_first c.args.text.now (h.0, record { at = λ i r. let k = h.1 i r in search rules })

pub returns-in_default-character : goal.returns-in_default-character
returns-in_default-character c =
    let h = c.in-Some.ensures.lookup.3 in
    scan_bad c.loop-b.invariant h.0 (ap (λ (b : ℕ). character b (drop (c.loop-b.at + 1) c.args.text.now)) (sym (h.1 0)) ∙ c.in_default-character.ensures.is)

pub loop-b-preserved : goal.loop-b-preserved
loop-b-preserved c =
    let h = c.in-Some.ensures.lookup.3 in
    let s = c.in-Some-character.ensures in
    let next = c.character.new.text.at in
    let is = ap (λ (b : ℕ). character b (drop (c.loop-b.at + 1) c.args.text.now)) (sym (h.1 0)) ∙ s.is ∙ ap (λ (t : Bor (List ℕ)). some (drop next t.now)) s.text in
    let p = c.past.ensures in
    scan_past (scan_more c.loop-b.invariant h.0 is (s.inside (omega (arith, h.0))) s.onward) (p.0, record { at = λ i r. let k = p.1 i r in search rules })
