-- The text with its suffix: printed into an array and copied, or measured and then written. Assumes
-- nothing.
use mathlib.Core.Path.{◌≡◌, refl, sym, ap, subst, ◌∙◌}
use mathlib.Core.List.{List, [], ◌∷◌, ◌++◌, append-nil}
use Prim.Native.Nat.{ℕ, ◌+◌, ◌-◌, ◌≤◌, ◌<◌}
use native.Mathlib.Omega.{arith}
use lib.ListN.{length, take, drop}
use lib.Seq.{take_at}
use Rattle.definition.specs.Base.{Name, bytes}
use Rattle.definition.specs.Text.{Text, suffix_text}
use Rattle.text_output.specs.Appends.{Appended, appended_is, appended_then}
use Rattle.text_cursor.specs.Part.{part}
use Rattle.text_output.specs.Sink.{Wrote, wrote_is}
use Rattle.text_output.specs.declared.Sink.{Sink}
use Rattle.tree_records.specs.Holds.{Names}
use Rattle.print_names.specs.Texts.{text_of}
use Rattle.print_names.specs.Texts as X
use Rattle.print_names.specs.Naming.{Puts}
use Rattle.print_labels.specs.RowTexts.{Prints}
use Rattle.print_tree.specs.Prints.{Shows, Suffixed, Rendered}

no_suffix : (t : Text) → length t ≡ 0 → suffix_text t ≡ []
unfolding suffix_text
no_suffix [] e = refl
no_suffix (b ∷ t) e = absurd (omega arith)

some_suffix : (t : Text) → (length t ≡ 0 → ⊥) → suffix_text t ≡ text_of 35 ++ (t ++ text_of 36)
unfolding suffix_text text_of X.texts bytes
some_suffix [] e = absurd (e refl)
some_suffix (b ∷ t) e = refl

module _ {nm : Names} {ws : List ℕ} {p : ℕ} {suffix : Text} where
  pub whole_alone : {o o' : Sink} → length suffix ≡ 0 → Puts (Prints nm ws p) o o' → Puts (Suffixed nm ws p suffix) o o'
  whole_alone e h = record {
    same = h.same;
    room = h.room;
    len = h.len;
    each = λ s k.
        appended_is (sym (k.is ∙ ap (λ (x : Name). k.text ++ x) (no_suffix suffix e) ∙ append-nil k.text)) (h.each k.text k.prints);
  }

  pub whole_suffixed : {o o₁ o₂ o₃ o₄ : Sink} → (length suffix ≡ 0 → ⊥) → Puts (Prints nm ws p) o o₁ → Appended o₁ o₂ (text_of 35) → Appended o₂ o₃ suffix → Appended o₃ o₄ (text_of 36) → Puts (Suffixed nm ws p suffix) o o₄
  whole_suffixed e w x y z = record {
    same = z.same ∙ y.same ∙ x.same ∙ w.same;
    room = z.room ∙ y.room ∙ x.room ∙ w.room;
    len = z.wrote.len ∙ y.wrote.len ∙ x.wrote.len ∙ w.len;
    each = λ s k.
        appended_is (sym (k.is ∙ ap (λ (t : Name). k.text ++ t) (some_suffix suffix e))) (appended_then (w.each k.text k.prints) (appended_then x (appended_then y z)));
  }

meant : {nm : Names} {ws : List ℕ} {p : ℕ} (suffix : Text) (s : Name) → Prints nm ws p s → Suffixed nm ws p suffix (s ++ suffix_text suffix)
meant suffix s k = record { text = s; prints = k; is = refl }

-- PRINTED ONCE
-- into a slice z, if it fits
module _ {nm : Names} {ws : List ℕ} {p n m : ℕ} {suffix : Text} {z e : List ℕ} (o : List ℕ) (full : length z ≡ n) (h : Shows (Suffixed nm ws p suffix) n z e m) (l : m ≤ n) where
  once_length : (s : Name) → Prints nm ws p s → length (s ++ suffix_text suffix) ≡ m
  once_length s k = let c = (h.each (s ++ suffix_text suffix) (meant suffix s k)).count in omega arith

  once_text : (s : Name) → Prints nm ws p s → part e 0 m ≡ s ++ suffix_text suffix
  once_text s k =
      let w = h.each (s ++ suffix_text suffix) (meant suffix s k) in
      let i : m ≤ length z = omega arith in
      let d : m - 0 ≡ m = omega arith in
      ap (λ (j : ℕ). take j e) d ∙ ap (take m) (w.text i) ∙ take_at (s ++ suffix_text suffix) (drop m z) m (once_length s k)

  pub once_out : length o < m → Rendered nm ws p suffix o o (length o + 1)
  once_out g = record { each = λ s k. record { count = omega (arith, once_length s k); fits = λ (x : length o + 1 ≤ length o). absurd (omega arith); refused = λ _. refl } }

  pub once_in : {r : ℕ} {o' : List ℕ} → m ≤ length o → Wrote (length o) o o' 0 (part e 0 m) r → Rendered nm ws p suffix o o' r
  once_in {r} g v = record {
    each = λ s k.
        let w = wrote_is (once_text s k) v in
        let c = w.count in
        record { count = omega arith; fits = w.text; refused = λ (x : length o < r). absurd (omega (arith, once_length s k)) };
  }

-- MEASURED FIRST
nil_of : (e : List ℕ) → length e ≡ 0 → e ≡ []
nil_of [] h = refl
nil_of (x ∷ e) h = absurd (omega arith)

module _ {nm : Names} {ws : List ℕ} {p : ℕ} {suffix : Text} (o : List ℕ) {e : List ℕ} {m : ℕ} (h : Shows (Suffixed nm ws p suffix) (length o) [] e m) where
  pub rendered_out : length o < m → Rendered nm ws p suffix o (e ++ o) m
  rendered_out l = record {
    each = λ s k.
        let w = h.each (s ++ suffix_text suffix) (meant suffix s k) in
        let c = w.count in
        record { count = omega arith; fits = λ (x : m ≤ length o). absurd (omega arith); refused = λ _. ap (λ (x : List ℕ). x ++ o) (nil_of e w.len) };
  }

  pub rendered_in : {r : ℕ} {o' : List ℕ} → m ≤ length o → Shows (Suffixed nm ws p suffix) (length o) (e ++ o) o' r → Rendered nm ws p suffix o o' r
  rendered_in {r} l v = record {
    each = λ s k.
        let w1 = h.each (s ++ suffix_text suffix) (meant suffix s k) in
        let w2 = v.each (s ++ suffix_text suffix) (meant suffix s k) in
        let c1 = w1.count in
        let c2 = w2.count in
        let q : e ++ o ≡ o = ap (λ (x : List ℕ). x ++ o) (nil_of e w1.len) in
        record {
          count = omega arith;
          fits = λ (x : r ≤ length o). w2.text (subst (λ (y : List ℕ). r ≤ length y) (sym q) x) ∙ ap (λ (y : List ℕ). (s ++ suffix_text suffix) ++ drop r y) q;
          refused = λ (x : length o < r). absurd (omega arith);
        };
  }
