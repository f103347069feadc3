-- 01, "The key": calls and their answers at N = 65,536, as tables. proofs/KeyHolds.antt has the
-- theorems.
use Rattle.std.specs.Prelude.{Bool, true, ◌&&◌, List, [], ◌∷◌, ℕ, ◌*◌, eqb, length}
use Prim.Native.String.{String}
use Rattle.definition.specs.Reading.{opened as opened₀}
use Rattle.definition.specs.Base.{bytes, same}
use Rattle.definition.specs.Calls.{Answer}
use Rattle.definition.specs.Reading.{demangle, demangle_type}

-- a reading of a symbol or a type
pub data Call : Type 0 where
  symbol type : String → Call

-- a text with or without the counts, or a refusal
pub data Gives : Type 0 where
  text : String → Gives
  counted : String → (steps total wraps : ℕ) → Gives
  refuses : (number place : ℕ) → Gives

-- the rows marked `*`
unfoldable pub key : List (Call × Gives)
key =
    (symbol "$s4main3fooyyF", counted "main.foo() -> ()" 5 5 1) ∷
    (symbol "_$S4main3fooyyF.1", text "main.foo() -> () with unmangled suffix \".1\"") ∷
    (symbol "$s4main3foo3barySi_tF", counted "main.foo(bar: Swift.Int) -> ()" 8 10 2) ∷
    (symbol "$s4main3FooV1aACvp", counted "main.Foo.a : main.Foo" 6 8 0) ∷
    (symbol "$s4main7FooItemV0C0Sivp", text "main.FooItem.Item : Swift.Int") ∷
    (symbol "$s_", text "") ∷
    (symbol "$s", refuses 5 0) ∷
    (symbol "$sZ", refuses 10 2) ∷
    (symbol "$s4main", refuses 11 7) ∷
    (symbol "$sr0_l", text "<A, B>") ∷
    (type "SiSg", counted "Swift.Int?" 2 9 1) ∷
    (type "S0i", refuses 9 0) ∷ []

-- the four wrong readings that document 01 names
unfoldable pub shut_out : List (Call × Gives)
shut_out =
    -- `A0C` is one copy, and is not refused
    (symbol "$s4main3FooV1aA0Cvp", counted "main.Foo.a : main.Foo" 6 8 0) ∷
    (type "SiSg_A0At", counted "(Swift.Int?, Swift.Int?)" 5 17 2) ∷
    -- parameter 26 is `AB`, not `BA`
    (type "q24_", text "AB") ∷
    (type "q23_", text "Z") ∷
    (type "q25_", text "BB") ∷
    (symbol "$sr25_l", text "<A, B, C, D, E, F, G, H, I, J, K, L, M, N, O, P, Q, R, S, T, U, V, W, X, Y, Z, AB>") ∷
    -- the empty list is taken before any label is popped
    (symbol "$s4main3fooyySi_tF", text "main.foo(Swift.Int) -> ()") ∷
    (symbol "$s4main3fooyySi_SitF", text "main.foo(Swift.Int, Swift.Int) -> ()") ∷
    -- the body ends before the first dot, not the last
    (symbol "$s4main3fooyyF.1.2", text "main.foo() -> () with unmangled suffix \".1.2\"") ∷
    (symbol "$s4mai.3fooyyF", refuses 9 2) ∷ []

-- enough workspace, and an output slice that is long enough for each row
unfoldable pub answer : Call → Answer
answer (symbol s) = demangle (bytes s) 65536 (64 * 65536) 16384
answer (type s) = demangle_type (bytes s) 65536 (64 * 65536) 16384

-- number, place, text and length
unfoldable pub wrote : Answer → String → Bool
wrote a s = eqb a.values.number 0 && eqb a.values.place 0 && same a.written (bytes s) && eqb a.values.length (length (bytes s))

unfoldable pub has_counts : Answer → ℕ → ℕ → ℕ → Bool
has_counts a n t w = eqb a.values.steps n && eqb a.values.total t && eqb a.values.wraps w

-- the counts where the row has them; a refusal has zero counts and length 0, and writes nothing
unfoldable pub gave : Answer → Gives → Bool
gave a (text s) = wrote a s
gave a (counted s n t w) = wrote a s && has_counts a n t w
gave a (refuses n p) =
    eqb a.values.number n && eqb a.values.place p && has_counts a 0 0 0 && same a.written [] && eqb a.values.length 0

unfoldable pub holds : List (Call × Gives) → Bool
holds [] = true
holds (r ∷ rs) = gave (answer r.0) r.1 && holds rs

-- FOR PROOFS ONLY: this name on an `unfolding` line opens every definition up to here
unfoldable pub opened : ℕ
unfolding opened₀ key shut_out answer wrote has_counts gave holds
opened = 0
