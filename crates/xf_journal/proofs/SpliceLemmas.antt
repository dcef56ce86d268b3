-- Several writes behind a gate.
use Rattle.std.proofs.Common.{◌≡◌, ◌≤◌, ℕ, ◌+◌, List, [], ◌∷◌, ◌++◌, length, take, drop, refl, sym, ◌∙◌, ap, arith, append_assoc, length-append, length-take}
use Rattle.std.proofs.lemmas.List.{take_at, drop_at, take-take}
use Rattle.std.specs.Prelude.{Result, Ok, Err, OnOk}
use Rattle.xf_disk.specs.declared.slot.Slot.{Slot}
use Rattle.xf_disk.specs.Image.{Image}
use Rattle.xf_disk.specs.Marks.{spliced}
use Rattle.xf_disk.specs.Crash.{Torn, InSlot, Follows}
use Rattle.xf_journal.specs.declared.layout.Format.TheVariants.{Second}
use Rattle.xf_journal.specs.declared.image.Image as written
use Rattle.xf_journal.specs.Numbers.{four, eight}
use Rattle.xf_journal.specs.Layout.{tag_of, header_bytes, new_bytes}
use Rattle.xf_journal.specs.Moments.{MightStep, SameGate}
use Rattle.xf_journal.proofs.NumberLemmas.{length-four, length-eight}
use Rattle.xf_journal.proofs.EntryLemmas.{drop_sum}

-- one write behind another is one of both
pub spliced_on : (at : ℕ) (xs ys old : List ℕ) → at ≤ length old → spliced (at + length xs) ys (spliced at xs old) ≡ spliced at (xs ++ ys) old
spliced_on at xs ys old le =
    let end = at + length xs in
    let front = take at old ++ xs in
    let size : length front ≡ end = omega (arith, length-append (take at old) xs, length-take at old) in
    let head : take end (spliced at xs old) ≡ front = take_at front (drop end old) end size in
    let tail : drop (end + length ys) (spliced at xs old) ≡ drop (end + length ys) old =
    drop_sum end (length ys) (spliced at xs old) ∙ ap (λ (l : List ℕ). drop (length ys) l) (drop_at front (drop end old) end size) ∙ sym (drop_sum end (length ys) old) in
    let sum : end + length ys ≡ at + length (xs ++ ys) = omega (arith, length-append xs ys) in
    (λ i. head i ++ ys ++ tail i)
    ∙ ap (λ (k : ℕ). front ++ ys ++ drop k old) sum
    ∙ ap (λ (l : List ℕ). l ++ drop (at + length (xs ++ ys)) old) (append_assoc (take at old) xs ys)

-- a write behind the gate leaves it
same_gate : (at n : ℕ) (old new : List ℕ) → 1 ≤ at → Torn at n old new → SameGate old new
same_gate at n old new behind torn = sym (take-take 1 at new behind) ∙ ap (λ (l : List ℕ). take 1 l) torn.before ∙ take-take 1 at old behind

pub gate_step : (at n : ℕ) (slot : Slot) (old new : Image) → 1 ≤ at → InSlot slot (Torn at n) old new → InSlot slot SameGate old new
gate_step at n slot old new behind step = record { this = same_gate at n _ _ behind step.this; rest = step.rest }

pub gate_none : (slot : Slot) (image : Image) → InSlot slot SameGate image image
gate_none slot image = record { this = refl; rest = refl }

-- two such steps are one
pub gate_steps : (slot : Slot) (old mid new : Image) → InSlot slot SameGate old mid → InSlot slot SameGate mid new → InSlot slot SameGate old new
gate_steps slot old mid new first second = record { this = second.this ∙ first.this; rest = second.rest ∙ first.rest }

-- what a write behind the gate may leave
pub might_write : (at n : ℕ) (slot : Slot) (may_leave after : Image → Type 0) → 1 ≤ at → Follows (InSlot slot (Torn at n)) may_leave after → (image : Image) → after image → MightStep slot SameGate may_leave image
might_write at n slot may_leave after behind follows image left =
    let from = follows image left in
    (from.0, from.1, gate_step at n slot from.0 image behind from.2)

pub might_twice : (slot : Slot) (may_leave mid after : Image → Type 0) → ((image : Image) → mid image → MightStep slot SameGate may_leave image) → ((image : Image) → after image → MightStep slot SameGate mid image) → (image : Image) → after image → MightStep slot SameGate may_leave image
might_twice slot may_leave mid after first second image left =
    let from = second image left in
    let was = first from.0 from.1 in
    (was.0, was.1, gate_steps slot was.0 from.0 image was.2 from.2)

-- a value that is known where a call went through
pub on_ok : {E : Type 0} → (result : Result (Unit {0}) E) (new mid end : List ℕ) → OnOk result (new ≡ mid) → mid ≡ end → OnOk result (new ≡ end)
on_ok (Ok done) new mid end is same = is ∙ same
on_ok (Err fault) new mid end is same = tt

pub on_any : {E : Type 0} → (result : Result (Unit {0}) E) (P : Type 0) → P → OnOk result P
on_any (Ok done) P is = is
on_any (Err fault) P is = tt

pub length-header_bytes : (epoch form base adoptions : ℕ) → length (header_bytes epoch form base adoptions) ≡ 24
length-header_bytes epoch form base adoptions =
    omega (
      arith,
      length-append (tag_of Second ++ eight epoch ++ four form ++ four base) (four adoptions),
      length-append (tag_of Second ++ eight epoch ++ four form) (four base),
      length-append (tag_of Second ++ eight epoch) (four form),
      length-append (tag_of Second) (eight epoch),
      length-eight epoch,
      length-four form,
      length-four base,
      length-four adoptions,
    )

-- four writes behind the gate are one of all that a new slot has there
pub behind_written : (epoch : ℕ) (image : written.Image) (header old mid new : List ℕ) → header ≡ header_bytes epoch (length image.form) (length image.base) image.adoptions → 1 ≤ length old
    → mid ≡ spliced 1 (header ++ image.form) old → new ≡ spliced (25 + length image.form) (image.base ++ 0 ∷ []) mid → new ≡ spliced 1 (new_bytes epoch image) old
behind_written epoch image header old mid new is stands first second =
    let form = image.form in
    let base = image.base in
    let head = header_bytes epoch (length form) (length base) image.adoptions in
    let mid_is : mid ≡ spliced 1 (head ++ form) old = first ∙ ap (λ (l : List ℕ). spliced 1 (l ++ form) old) is in
    let size : 25 + length form ≡ 1 + length (head ++ form) = omega (arith, length-append head form, length-header_bytes epoch (length form) (length base) image.adoptions) in
    second
    ∙ ap (λ (k : ℕ). spliced k (base ++ 0 ∷ []) mid) size
    ∙ ap (λ (l : List ℕ). spliced (1 + length (head ++ form)) (base ++ 0 ∷ []) l) mid_is
    ∙ spliced_on 1 (head ++ form) (base ++ 0 ∷ []) old stands
    ∙ ap (λ (l : List ℕ). spliced 1 l old) (sym (append_assoc (head ++ form) base (0 ∷ [])))
