-- Parts of lines, and the lines that they end as.
use Rattle.std.proofs.Common.{◌≡◌, ◌≢◌, ◌<◌, ◌-◌, ℕ, List, [], ◌∷◌, ◌++◌, length, Bool, true, false, refl, ap, sym, ◌∙◌, arith, length-append, subst, Result, Ok, Err}
use Rattle.std.specs.Prelude.{OnOk}
use Rattle.std.proofs.lemmas.Bool.Decides.{nat_tests}
use Rattle.xf_io.specs.Lines.{lines_of, onto_first, ended_lines, onto_ended, IsOpen}
use Rattle.xf_io.specs.Part.{IsKept, Grows}
use Rattle.xf_io.specs.declared.part.Part.{Part}

pub open-append : (bs more : List ℕ) → IsOpen bs → IsOpen more → IsOpen (bs ++ more)
open-append [] more p q = q
open-append (b ∷ bs) more p q = (p.0, open-append bs more p.1 q)

first_of : (b : ℕ) (bs : List ℕ) (ls : List (List ℕ)) → b ≢ 10 → lines_of bs ≡ ls → lines_of (b ∷ bs) ≡ onto_first b ls
first_of b bs ls n e = grind (arith, nat_tests)

-- the bytes without a line feed before one are the first line
pub lines_of-ended : (bs rest : List ℕ) → IsOpen bs → lines_of (bs ++ 10 ∷ rest) ≡ bs ∷ lines_of rest
lines_of-ended [] rest h = refl
lines_of-ended (b ∷ bs) rest h = first_of b (bs ++ 10 ∷ rest) (bs ∷ lines_of rest) h.0 (lines_of-ended bs rest h.1)

lines_of-some : (b : ℕ) (bs : List ℕ) → IsOpen (b ∷ bs) → lines_of (b ∷ bs) ≡ (b ∷ bs) ∷ []
lines_of-some b [] h = first_of b [] [] h.0 refl
lines_of-some b (c ∷ bs) h = first_of b (c ∷ bs) ((c ∷ bs) ∷ []) h.0 (lines_of-some c bs h.1)

-- bytes without a line feed are one line
pub lines_of-last : (bs : List ℕ) → IsOpen bs → 0 < length bs → lines_of bs ≡ bs ∷ []
lines_of-last [] h n = absurd (omega arith)
lines_of-last (b ∷ bs) h n = lines_of-some b bs h

first_ended : (b : ℕ) (bs : List ℕ) (ls : List (List ℕ)) → b ≢ 10 → ended_lines bs ≡ ls → ended_lines (b ∷ bs) ≡ onto_ended b ls
first_ended b bs ls n e = grind (arith, nat_tests)

pub ended_lines-ended : (bs rest : List ℕ) → IsOpen bs → ended_lines (bs ++ 10 ∷ rest) ≡ bs ∷ ended_lines rest
ended_lines-ended [] rest h = refl
ended_lines-ended (b ∷ bs) rest h = first_ended b (bs ++ 10 ∷ rest) (bs ∷ ended_lines rest) h.0 (ended_lines-ended bs rest h.1)

-- bytes without a line feed end no line
pub ended_lines-open : (bs : List ℕ) → IsOpen bs → ended_lines bs ≡ []
ended_lines-open [] h = refl
ended_lines-open (b ∷ bs) h = first_ended b bs [] h.0 (ended_lines-open bs h.1)

-- more of a part is kept where it fits
pub kept_more : (long : Bool) (bytes kept more new : List ℕ) → IsKept long bytes kept → long ≡ false → new ≡ kept ++ more → IsKept false (bytes ++ more) new
kept_more true bytes kept more new h l e = absurd (cc)
kept_more false bytes kept more new h l e = e ∙ ap (λ k. k ++ more) h

-- and else the part is too long
pub kept_long : (long : Bool) (bytes kept more : List ℕ) → IsKept long bytes kept → long ≡ true → IsKept true (bytes ++ more) kept
kept_long true bytes kept more h l = omega (arith, h, length-append bytes more)
kept_long false bytes kept more h l = absurd (cc)

pub kept_past : (long : Bool) (bytes kept more : List ℕ) → IsKept long bytes kept → 65536 - length kept < length more → IsKept true (bytes ++ more) kept
kept_past true bytes kept more h l = omega (arith, h, length-append bytes more)
kept_past false bytes kept more h l = omega (arith, l, ap length h, length-append bytes more)

-- a part that took more where that fits
pub grown_if_ok : {E : Type 0} (result : Result (Unit {0}) E) (old new : Part) (more : List ℕ) → IsOpen more → old.long ≡ false
    → OnOk result (new.kept ≡ old.kept ++ more) → new.long ≡ old.long → OnOk result (Grows old new more)
grown_if_ok (Err e) old new more free short is same = tt
grown_if_ok (Ok x) old new more free short is same = λ bytes part. record {
  without_line_feed = open-append bytes more part.without_line_feed free;
  kept = subst (λ l. IsKept l (bytes ++ more) new.kept) (sym (same ∙ short)) (kept_more old.long bytes old.kept more new.kept part.kept short is);
}
