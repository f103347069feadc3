-- The checks before a run, and the part of a text that is read. Assumes nothing.
use mathlib.Core.Path.{◌≡◌, refl, sym, ap, ap₂, subst, ◌∙◌}
use mathlib.Core.Bool.{Bool, true, false, ◌&&◌, and-false, and-eq-true_iff}
use mathlib.Core.Option.{Option, some, none}
use Prim.Native.Nat.{ℕ, ◌-◌, ◌*◌, ◌≤◌, ◌<◌}
use native.Mathlib.Omega.{arith}
use native.Mathlib.Nat.{le_trans, mul-le-mul_right}
use lib.Dec.{leb, ltb, leb→le, le→leb, lt→ltb, not_T}
use lib.ListN.{length, take, drop, length-drop}
use lib.Seq.{take_all, drop-length}
use Rattle.definition.specs.Base.{given}
use Rattle.definition.specs.Text as Text
use Rattle.definition.specs.Text.{Text, Symbol, split, ill_formed}
use Rattle.definition.specs.Calls as Calls
use Rattle.definition.specs.Calls.{refusal, good_ceiling, admit, symbol, whole_text}
use Rattle.definition.specs.Enums.{number}
use Rattle.definition.specs.declared.Refusal.{Refusal}
use Rattle.definition.proofs.SameText.{passed, failed}
use Rattle.machine.specs.declared.runs.Final.{Final}
use Rattle.text_symbols.specs.Symbol as Symbols
use Rattle.call_admission.proofs.Bodies.{body_well_formed}
use Rattle.call_admission.specs.Admits.{framed, Framed, Body, Refused, Frames}
use Rattle.std.specs.Prelude as Std
use Rattle.std.specs.Prelude.{Some, None}
use Rattle.text_symbols.specs.declared.Parts.{Parts}

-- 5
whole : (t : Text) → whole_text t ≡ Symbols.symbol t 0 (length t)
whole t = ap₂ {C = Symbol} (λ b s. record { start = 0; body = b; suffix = s }) (sym (take_all (length t - 0) t (omega arith))) (sym (drop-length t))

module _ {what : Final} (t : Text) where
  pub symbol_not : what ≡ Final.Symbol → split t ≡ none → Refused (framed what t) Refusal.Prefix 0
  unfolding symbol number
  symbol_not e h = subst (λ (x : Final). Refused (framed x t) Refusal.Prefix 0) (sym e) (record { is = λ read. ap (λ (o : Option Symbol). given o (refusal 5 0) read) h })

  module _ (w : Text.well_formed t ≡ true) where
    symbol_parts : (start end : ℕ) → what ≡ Final.Symbol → Symbols.Parts (split t) t start end → Framed (framed what t) t start end
    unfolding symbol
    symbol_parts start end e h = subst (λ (x : Final). Framed (framed x t) t start end) (sym e) (record {
      body = record { is = λ read. ap (λ (o : Option Symbol). given o (refusal 5 0) read) h.is };
      order = h.order;
      inside = h.inside;
      encoded = body_well_formed t h.is w;
    })

    -- the parts of a symbol, or refusal 5
    pub symbol_framed : what ≡ Final.Symbol → (o : Std.Option Parts) → Symbols.SplitIs (split t) t o → Frames (framed what t) t o
    symbol_framed e (Some p) h = symbol_parts p.start p.end e h
    symbol_framed e None h = symbol_not e h

    pub type_whole : what ≡ Final.Type → Framed (framed what t) t 0 (length t)
    type_whole e = subst (λ (x : Final). Framed (framed x t) t 0 (length t)) (sym e) (record {
      body = record { is = λ read. ap read (whole t) };
      order = omega arith;
      inside = omega arith;
      encoded = ap Text.well_formed (take_all (length t - 0) t (omega arith)) ∙ w;
    })

-- 1 to 4, by the outcome of each test
outcome : (ceiling long short : Bool) → Option ℕ → Calls.Answer → Calls.Answer
outcome ceiling long short ill rest = elim ceiling [
  | false ↦ refusal 1 0
  | true ↦ elim long [
    | false ↦ refusal 2 0
    | true ↦ elim short [
      | false ↦ refusal 3 0
      | true ↦ elim ill [ some p ↦ refusal 4 p | none ↦ rest ]
    ]
  ]
]

module _ (what : Final) (need N w : ℕ) (t : Text) where
  abbrev Fails : Refusal → ℕ → Type 0
  Fails r place = Refused (λ read. admit need N w t (framed what t read)) r place

  -- the outcomes of the tests are these
  tested : {g l s : Bool} {o : Option ℕ} → good_ceiling N ≡ g → leb (need * N) w ≡ l → leb (length t) 65535 ≡ s → ill_formed t ≡ o → (a : Calls.Answer) → admit need N w t a ≡ outcome g l s o a
  unfolding admit outcome
  tested {g} {l} {s} e₁ e₂ e₃ e₄ a =
      ap (λ (x : Bool). outcome x (leb (need * N) w) (leb (length t) 65535) (ill_formed t) a) e₁ ∙ ap (λ (x : Bool). outcome g x (leb (length t) 65535) (ill_formed t) a) e₂
      ∙ ap (λ (x : Bool). outcome g l x (ill_formed t) a) e₃ ∙ ap (λ (x : Option ℕ). outcome g l s x a) e₄

  no_ceiling : good_ceiling N ≡ false → Fails Refusal.Ceiling 0
  unfolding number outcome
  no_ceiling h = record { is = λ read. tested h refl refl refl (framed what t read) }

  pub ceiling_zero : N ≡ 0 → Fails Refusal.Ceiling 0
  unfolding good_ceiling
  ceiling_zero h = no_ceiling (ap good_ceiling h)

  pub ceiling_past : 65536 < N → Fails Refusal.Ceiling 0
  unfolding good_ceiling
  ceiling_past h = no_ceiling (ap (λ (b : Bool). ltb 0 N && b) (failed (leb N 65536) (not_T (leb N 65536) (λ q. omega (arith, leb→le N 65536 q, h)))) ∙ and-false (ltb 0 N))

  module _ (some_nodes : 0 < N) (small : N ≤ 65536) where
    ceiling_is : good_ceiling N ≡ true
    unfolding good_ceiling
    ceiling_is = (and-eq-true_iff (ltb 0 N) (leb N 65536)).1 (passed (ltb 0 N) (lt→ltb 0 N some_nodes), passed (leb N 65536) (le→leb N 65536 small))

    pub workspace_short : w < need * N → Fails Refusal.Workspace 0
    unfolding number outcome
    workspace_short h = record { is = λ read. tested ceiling_is (failed (leb (need * N) w) (not_T (leb (need * N) w) (λ q. omega (arith, leb→le (need * N) w q, h)))) refl refl (framed what t read) }

    module _ (long : need * N ≤ w) where
      long_is : leb (need * N) w ≡ true
      long_is = passed (leb (need * N) w) (le→leb (need * N) w long)

      pub text_long : 65535 < length t → Fails Refusal.Length 0
      unfolding number outcome
      text_long h = record { is = λ read. tested ceiling_is long_is (failed (leb (length t) 65535) (not_T (leb (length t) 65535) (λ q. omega (arith, leb→le (length t) 65535 q, h)))) refl (framed what t read) }

      module _ (short : length t ≤ 65535) where
        short_is : leb (length t) 65535 ≡ true
        short_is = passed (leb (length t) 65535) (le→leb (length t) 65535 short)

        pub text_ill_formed : (p : ℕ) → ill_formed t ≡ some p → Fails Refusal.Encoding p
        unfolding number outcome
        text_ill_formed p h = record { is = λ read. tested ceiling_is long_is short_is h (framed what t read) }

        passes : ill_formed t ≡ none → (a : Calls.Answer) → admit need N w t a ≡ a
        unfolding outcome
        passes h a = tested ceiling_is long_is short_is h a

        -- 5, or what is read
        pub read_from : ill_formed t ≡ none → (start end : ℕ) → Framed (framed what t) t start end → (y : Symbol) → y ≡ Symbols.symbol t start end → Body (λ read. admit need N w t (framed what t read)) y
        read_from h start end b y e = record { is = λ read. passes h (framed what t read) ∙ b.body.is read ∙ ap read (sym e) }

        pub no_body : ill_formed t ≡ none → Refused (framed what t) Refusal.Prefix 0 → Fails Refusal.Prefix 0
        no_body h b = record { is = λ read. passes h (framed what t read) ∙ b.is read }

-- what a call needs fits a number of 64 bits
pub needed : (need N : ℕ) → need ≤ 64 → N ≤ 65536 → need * N ≤ 4194304
needed need N h k = le_trans (mul-le-mul_right N h) (omega (arith, k))

-- what follows a part of a text, as it is sliced
pub part_is : (t : Text) (start end : ℕ) → end ≤ length t → record { start = start; body = take (end - start) (drop start t); suffix = take (length t - end) (drop end t) } ≡ Symbols.symbol t start end
part_is t start end l = ap (λ (u : Text). record { start = start; body = take (end - start) (drop start t); suffix = u }) (take_all (length t - end) (drop end t) (omega (arith, length-drop end t)))
