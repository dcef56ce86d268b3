-- What a crash may leave of a slot in memory, after a write and after a sync.
use Rattle.std.proofs.Common.{◌≡◌, ◌<◌, get_or, ◌≤◌, inl, inr, ℕ, zero, suc, ◌+◌, ◌-◌, min, max, List, [], ◌∷◌, ◌++◌, Bool, true, false, length, take, drop, replicate, refl, sym, ◌∙◌, ap, subst, arith, length-append}
use Rattle.std.proofs.lemmas.List.{drop_all, length-take, drop-take, take-take}
use Rattle.std.proofs.lemmas.Bool.{cases_lt}
use Rattle.std.proofs.Math.Seq.{take-append-add}
use Rattle.std.proofs.Math.Nat.{suc-add}
use Rattle.xf_disk.specs.Crash.{Torn}
use Rattle.std.specs.Prelude.{◌↔◌, Option}
use Rattle.xf_disk.specs.Marks.{Stays, Agrees, spliced, filled, filling_of}
use Rattle.xf_disk.specs.Laws.{stays_same}
use Rattle.xf_disk.proofs.TornLemmas.{torn_before, torn_in, torn_past, torn_same}

spliced-cons : {X : Type 0} → (at : ℕ) (put : List X) (x : X) (xs : List X) → spliced (suc at) put (x ∷ xs) ≡ x ∷ spliced at put xs
spliced-cons at put x xs =
    let one : suc at + length put ≡ suc (at + length put) = suc-add at (length put) in
    ap (λ (k : ℕ). take (suc at) (x ∷ xs) ++ put ++ drop k (x ∷ xs)) one

spliced-in : {X : Type 0} → (p : X) (put : List X) (x : X) (xs : List X) → spliced zero (p ∷ put) (x ∷ xs) ≡ p ∷ spliced zero put xs
spliced-in p put x xs =
    let one : 0 + suc (length put) ≡ suc (0 + length put) = omega arith in
    ap (λ (k : ℕ). (p ∷ put) ++ drop k (x ∷ xs)) one

agrees_by : (written written' : List Bool) (bytes bytes' image : List ℕ) → written ≡ written' → bytes ≡ bytes' → Agrees written bytes image → Agrees written' bytes' image
agrees_by written written' bytes bytes' image same_written same_bytes agrees =
    subst (λ (w : List Bool). Agrees w bytes' image) same_written (subst (λ (b : List ℕ). Agrees written b image) same_bytes agrees)

-- what a crash may leave before a write, it may leave after
pub agrees_more : (at n : ℕ) (put : List ℕ) (written : List Bool) (bytes image : List ℕ) → length put ≡ n → Agrees written bytes image → Agrees (spliced at (replicate n true) written) (spliced at put bytes) image
agrees_more at n put written bytes [] same agrees = tt
agrees_more at n put [] bytes (c ∷ image) same agrees = absurd agrees
agrees_more at n put (w ∷ written) [] (c ∷ image) same agrees = absurd agrees
agrees_more (suc at) n put (w ∷ written) (x ∷ bytes) (c ∷ image) same agrees =
    agrees_by _ _ _ _ (c ∷ image) (sym (spliced-cons at (replicate n true) w written)) (sym (spliced-cons at put x bytes)) (agrees.0, agrees_more at n put written bytes image same agrees.1)
agrees_more zero (suc n) [] (w ∷ written) (x ∷ bytes) (c ∷ image) same agrees = absurd (omega arith)
agrees_more zero (suc n) (p ∷ put) (w ∷ written) (x ∷ bytes) (c ∷ image) same agrees =
    agrees_by _ _ _ _ (c ∷ image) (sym (spliced-in true (replicate n true) w written)) (sym (spliced-in p put x bytes)) (tt, agrees_more zero n put written bytes image (omega arith) agrees.1)
agrees_more zero zero [] (w ∷ written) (x ∷ bytes) (c ∷ image) same agrees = agrees
agrees_more zero zero (p ∷ put) (w ∷ written) (x ∷ bytes) (c ∷ image) same agrees = absurd (omega arith)

-- an image after a write is one before it, torn
pub record Restored (at n len : ℕ) (written : List Bool) (bytes image : List ℕ) : Type 0 where
  pub was : List ℕ
  pub agrees : Agrees written bytes was
  pub torn : Torn at n was image
  pub no_longer : length was ≤ len
  pub no_shorter : min (length image) len ≤ length was

pub restored : (at n len : ℕ) (put : List ℕ) (written : List Bool) (bytes image : List ℕ) → length put ≡ n → at ≤ len → len ≤ length bytes → length written ≡ length bytes → at + n ≤ length bytes → length image ≤ max len (at + n) → Agrees (spliced at (replicate n true) written) (spliced at put bytes) image → Restored at n len written bytes image
restored at n len put written bytes [] same le within alike room long agrees =
    record { was = []; agrees = tt; torn = torn_same at n []; no_longer = omega arith; no_shorter = omega arith }
restored (suc at) n zero put written bytes (c ∷ image) same le within alike room long agrees = absurd (omega arith)
restored (suc at) n (suc len) put written [] (c ∷ image) same le within alike room long agrees = absurd (omega arith)
restored (suc at) n (suc len) put [] (x ∷ bytes) (c ∷ image) same le within alike room long agrees = absurd (omega arith)
restored (suc at) n (suc len) put (w ∷ written) (x ∷ bytes) (c ∷ image) same le within alike room long agrees =
    let both : Stays w x c × Agrees (spliced at (replicate n true) written) (spliced at put bytes) image =
    agrees_by _ _ _ _ (c ∷ image) (spliced-cons at (replicate n true) w written) (spliced-cons at put x bytes) agrees in
    let rest = restored at n len put written bytes image same (omega arith) (omega arith) (omega arith) (omega arith) (omega arith) both.1 in
    record {
      was = c ∷ rest.was;
      agrees = (both.0, rest.agrees);
      torn = torn_before at n rest.was image c rest.torn;
      no_longer = omega (arith, rest.no_longer);
      no_shorter = omega (arith, rest.no_shorter);
    }
restored zero zero len [] written bytes (c ∷ image) same le within alike room long agrees =
    record { was = c ∷ image; agrees = agrees; torn = torn_same zero zero (c ∷ image); no_longer = omega arith; no_shorter = omega arith }
restored zero zero len (p ∷ put) written bytes (c ∷ image) same le within alike room long agrees = absurd (omega arith)
restored zero (suc n) len [] written bytes (c ∷ image) same le within alike room long agrees = absurd (omega arith)
restored zero (suc n) zero (p ∷ put) written bytes (c ∷ image) same le within alike room long agrees =
    record { was = []; agrees = tt; torn = torn_past (suc n) (c ∷ image) (omega arith); no_longer = omega arith; no_shorter = omega arith }
restored zero (suc n) (suc len) (p ∷ put) written [] (c ∷ image) same le within alike room long agrees = absurd (omega arith)
restored zero (suc n) (suc len) (p ∷ put) [] (x ∷ bytes) (c ∷ image) same le within alike room long agrees = absurd (omega arith)
restored zero (suc n) (suc len) (p ∷ put) (w ∷ written) (x ∷ bytes) (c ∷ image) same le within alike room long agrees =
    let both : Stays true p c × Agrees (spliced zero (replicate n true) written) (spliced zero put bytes) image =
    agrees_by _ _ _ _ (c ∷ image) (spliced-in true (replicate n true) w written) (spliced-in p put x bytes) agrees in
    let rest = restored zero n len put written bytes image (omega arith) (omega arith) (omega arith) (omega arith) (omega arith) (omega arith) both.1 in
    record {
      was = x ∷ rest.was;
      agrees = (stays_same w x, rest.agrees);
      torn = torn_in n rest.was image x c rest.torn;
      no_longer = omega (arith, rest.no_longer);
      no_shorter = omega (arith, rest.no_shorter);
    }

-- where no byte was written, the image is what stands
pub agrees_unwritten : (n : ℕ) (bytes image : List ℕ) → Agrees (replicate n false) bytes image → image ≡ take (length image) bytes
agrees_unwritten n bytes [] agrees = refl
agrees_unwritten zero bytes (c ∷ image) agrees = absurd agrees
agrees_unwritten (suc n) [] (c ∷ image) agrees = absurd agrees
agrees_unwritten (suc n) (x ∷ bytes) (c ∷ image) agrees =
    let rest = agrees_unwritten n bytes image agrees.1 in
    (λ i. agrees.0 i ∷ rest i)

tail_of : (end len : ℕ) (bytes : List ℕ) → take (max len end - end) (drop end bytes) ≡ drop end (take len bytes)
tail_of end len bytes = elim (cases_lt len end) [
  | inl short ↦
      let none : max len end - end ≡ 0 = omega arith in
      ap (λ (k : ℕ). take k (drop end bytes)) none ∙ sym (drop_all end (take len bytes) (omega (arith, length-take len bytes)))
  | inr long ↦
      let size : end + (max len end - end) ≡ len = omega arith in
      sym (drop-take end (max len end - end) bytes) ∙ ap (λ (k : ℕ). drop end (take k bytes)) size
]

-- what stands after a write
pub held_spliced : (at len : ℕ) (put bytes : List ℕ) → at ≤ len → len ≤ length bytes → at + length put ≤ length bytes → take (max len (at + length put)) (spliced at put bytes) ≡ spliced at put (take len bytes)
held_spliced at len put bytes le within room =
    let end = at + length put in
    let more = max len end - end in
    let front = take at bytes ++ put in
    let size : max len end ≡ length front + more = omega (arith, length-append (take at bytes) put, length-take at bytes) in
    ap (λ (k : ℕ). take k (front ++ drop end bytes)) size
    ∙ take-append-add front (drop end bytes) more
    ∙ ap (λ (l : List ℕ). front ++ l) (tail_of end len bytes)
    ∙ ap (λ (l : List ℕ). l ++ put ++ drop end (take len bytes)) (sym (take-take at len bytes le))

pub length-filled : (fill : Option ℕ) (written : List Bool) (bytes : List ℕ) → length written ≡ length bytes → length (filled fill written bytes) ≡ length bytes
length-filled fill [] [] alike = refl
length-filled fill [] (byte ∷ bytes) alike = absurd (omega arith)
length-filled fill (w ∷ written) [] alike = absurd (omega arith)
length-filled fill (w ∷ written) (byte ∷ bytes) alike = omega (arith, length-filled fill written bytes (omega arith))

stays_filled : (fill : Option ℕ) (w : Bool) (byte : ℕ) → Stays w byte (filling_of fill w byte)
stays_filled fill true byte = tt
stays_filled fill false byte = refl

-- what the filling makes is among what a crash may leave
pub agrees_filled : (n : ℕ) (fill : Option ℕ) (written : List Bool) (bytes : List ℕ) → Agrees written bytes (take n (filled fill written bytes))
agrees_filled zero fill written bytes = tt
agrees_filled (suc n) fill [] bytes = tt
agrees_filled (suc n) fill (w ∷ written) [] = tt
agrees_filled (suc n) fill (w ∷ written) (byte ∷ bytes) = (stays_filled fill w byte, agrees_filled n fill written bytes)

-- one byte more that is compared
pub agrees_one : (i : ℕ) (written : List Bool) (bytes image : List ℕ) → i < length image → length image ≤ length bytes → length written ≡ length bytes
    → Agrees (drop i written) (drop i bytes) (drop i image) ↔ (Stays (get_or written i false) (get_or bytes i 0) (get_or image i 0) × Agrees (drop (i + 1) written) (drop (i + 1) bytes) (drop (i + 1) image))
agrees_one zero (w ∷ written) (x ∷ bytes) (c ∷ image) within short alike = (λ h. h, λ h. h)
agrees_one (suc i) (w ∷ written) (x ∷ bytes) (c ∷ image) within short alike =
    let one : suc i + 1 ≡ suc (i + 1) = omega arith in
    let rest = agrees_one i written bytes image (omega arith) (omega arith) (omega arith) in
    subst (λ (k : ℕ). Agrees (drop i written) (drop i bytes) (drop i image) ↔ (Stays (get_or written i false) (get_or bytes i 0) (get_or image i 0) × Agrees (drop k (w ∷ written)) (drop k (x ∷ bytes)) (drop k (c ∷ image)))) (sym one) rest
agrees_one i written bytes [] within short alike = absurd (omega arith)
agrees_one i written [] (c ∷ image) within short alike = absurd (omega arith)
agrees_one i [] (x ∷ bytes) (c ∷ image) within short alike = absurd (omega arith)
