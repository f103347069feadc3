use Rattle.std.proofs.Common.{◌≡◌, sym, ◌∙◌, Bool, false, [], ◌∷◌, eqb}
use Rattle.std.specs.List.{starts_with}
use Rattle.definition.specs.Base.{bytes}
use Rattle.definition.specs.Text.{Text, prefixes, prefix_of}
use Rattle.text_symbols.proofs.Symbols.{begins_with, starts_same, prefix_here, prefix_later}
use Rattle.text_symbols.proofs.prefix.Goals as goal

-- what a test for a prefix found
found : (p t : Text) {r d : Bool} → r ≡ starts_with eqb t p → r ≡ d → begins_with p t ≡ d
found p t e k = sym (starts_same p t) ∙ sym e ∙ k

module _ (t : Text) {r : Bool} where
  not_first : r ≡ starts_with eqb t (bytes "_$s") → r ≡ false → prefix_of prefixes t ≡ prefix_of ("$s" ∷ "_$S" ∷ "$S" ∷ []) t
  unfolding prefixes
  not_first e k = prefix_later "_$s" _ t (found (bytes "_$s") t e k)

  not_second : r ≡ starts_with eqb t (bytes "$s") → r ≡ false → prefix_of ("$s" ∷ "_$S" ∷ "$S" ∷ []) t ≡ prefix_of ("_$S" ∷ "$S" ∷ []) t
  not_second e k = prefix_later "$s" _ t (found (bytes "$s") t e k)

  not_third : r ≡ starts_with eqb t (bytes "_$S") → r ≡ false → prefix_of ("_$S" ∷ "$S" ∷ []) t ≡ prefix_of ("$S" ∷ []) t
  not_third e k = prefix_later "_$S" _ t (found (bytes "_$S") t e k)

pub returns-then-starts_with : goal.returns-then-starts_with
unfolding bytes prefixes
returns-then-starts_with c = let t = c.args.text.now in prefix_here "_$s" _ t (found (bytes "_$s") t c.starts_with.ensures.value c.if-starts_with.true)

pub returns-then-starts_with-2 : goal.returns-then-starts_with-2
unfolding bytes
returns-then-starts_with-2 c = let t = c.args.text.now in not_first t c.starts_with.ensures.value c.if-starts_with.false ∙ prefix_here "$s" _ t (found (bytes "$s") t c.starts_with-2.ensures.value c.if-starts_with-2.true)

pub returns-then-starts_with-3 : goal.returns-then-starts_with-3
unfolding bytes
returns-then-starts_with-3 c =
    let t = c.args.text.now in
    not_first t c.starts_with.ensures.value c.if-starts_with.false ∙ not_second t c.starts_with-2.ensures.value c.if-starts_with-2.false
    ∙ prefix_here "_$S" _ t (found (bytes "_$S") t c.starts_with-3.ensures.value c.if-starts_with-3.true)

pub returns-then-starts_with-4 : goal.returns-then-starts_with-4
unfolding bytes
returns-then-starts_with-4 c =
    let t = c.args.text.now in
    not_first t c.starts_with.ensures.value c.if-starts_with.false ∙ not_second t c.starts_with-2.ensures.value c.if-starts_with-2.false ∙ not_third t c.starts_with-3.ensures.value c.if-starts_with-3.false
    ∙ prefix_here "$S" _ t (found (bytes "$S") t c.starts_with-4.ensures.value c.if-starts_with-4.true)

pub returns : goal.returns
unfolding bytes prefix_of
returns c =
    let t = c.args.text.now in
    not_first t c.starts_with.ensures.value c.if-starts_with.false ∙ not_second t c.starts_with-2.ensures.value c.if-starts_with-2.false ∙ not_third t c.starts_with-3.ensures.value c.if-starts_with-3.false
    ∙ prefix_later "$S" [] t (found (bytes "$S") t c.starts_with-4.ensures.value c.if-starts_with-4.false)
