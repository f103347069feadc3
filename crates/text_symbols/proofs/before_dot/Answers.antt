use Rattle.std.proofs.Common.{sym, ◌∙◌, rules}
use Rattle.text_symbols.proofs.Symbols.{seek_past, dot_at, dot_nowhere}
use Rattle.text_symbols.proofs.before_dot.Goals as goal

pub returns-in-Some : goal.returns-in-Some
returns-in-Some c =
    let h = c.past-start.ensures in
    dot_at (seek_past c.args.text.now c.past-start.result h.0 (record { at = λ i r. let k = h.1 i r in search rules })) (sym c.first_dot.ensures ∙ c.in-Some.is)

pub returns-in-None : goal.returns-in-None
returns-in-None c =
    let h = c.past-start.ensures in
    dot_nowhere (seek_past c.args.text.now c.past-start.result h.0 (record { at = λ i r. let k = h.1 i r in search rules })) (sym c.first_dot.ensures ∙ c.in-None.is)
