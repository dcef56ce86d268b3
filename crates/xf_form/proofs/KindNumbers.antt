-- The numbers of models, instances, binds, submissions, repeats, switches and controls count up in document order.
use Rattle.std.proofs.Common.{◌≡◌, ℕ, suc, ◌+◌, Bool, true, false, not, ◌&&◌, ◌==◌, cond, List, [], ◌∷◌, ◌++◌, map, length, take, Option, refl, ap, sym, ◌∙◌, append_assoc, arith, rules, inl, inr}
use Rattle.std.specs.Prelude.{flat_map}
use Rattle.std.proofs.lemmas.Bool.{cases_Bool, and_from}
use Rattle.std.proofs.lemmas.List.{take_at}
use Rattle.std.proofs.lemmas.List.Sums.{sum_by-append}
use Rattle.xf_def_syntax.specs.Ordered.{numbered_from, count_up, model_in, instance_in, bind_in, submission_in, repeat_in, switch_in, place_in}
use Rattle.xf_def_syntax.specs.declared.action.Action.{Action}
use Rattle.xf_def_syntax.specs.declared.element.Control.{Control}
use Rattle.xf_def_syntax.specs.declared.element.Element.{Element}
use Rattle.xf_def_syntax.specs.declared.element.Kind.{Kind}
use Rattle.xf_def_syntax.specs.declared.element.Kind.TheVariants as kind
use Rattle.xf_name.specs.Bindings.{Bindings}
use Rattle.xf_form_vocabulary.specs.Attributes.{Shown, known_in}
use Rattle.xf_form_vocabulary.specs.Classes.{has_properties, is_counted, tells_text}
use Rattle.xf_form_vocabulary.specs.declared.tag.Tag.{Tag}
use Rattle.xf_form_vocabulary.specs.declared.tag.Tag.TheVariants as tag
use Rattle.xf_form_refusals.specs.declared.classes.Class.{Class}
use Rattle.xf_form_refusals.specs.declared.classes.Class.TheVariants as class
use Rattle.xf_form_refusals.specs.Classes.{is_of, is_model, is_submission, is_repeat, is_switch}
use Rattle.xf_form_refusals.specs.Limits.{count_of}
use Rattle.xf_form_refusals.specs.Rows.{Seen, is_numbered, is_inline, is_output, is_control_row}
use Rattle.xf_form_refusals.specs.Standing.{is_instance}
use Rattle.xf_form_refusals.specs.Tally.{one_where}
use Rattle.xf_form.specs.Actions.{action_of}
use Rattle.xf_form.specs.Elements.{kind_by, control_of, control_place}
use Rattle.xf_form.specs.Numbers.{number_among, number_of}
use Rattle.xf_form.specs.Tables.{each_from, element_at, first_at}
use Rattle.xf_form.proofs.FormTrees.{cnt, cnt_push, num_at}
use Rattle.xf_form.proofs.OrderedElements.{length_push}

-- ---- the number in what an element is

abbrev one_if : Bool → ℕ → List ℕ
one_if c n = cond c (n ∷ []) []

abbrev by_tag : ℕ → Bindings → List Seen → ℕ → Seen → Option ℕ → List Shown → Tag → Kind
by_tag d b all place r first known t = cond (is_counted t) (kind.Control (control_place all place) (control_of all place t first known)) (kind.Action (action_of d b all r first known))

none_by_class : (number_in : Kind → List ℕ) (c : Bool) (place : ℕ) (x : Control) (a : Action) → number_in (kind.Control place x) ≡ [] → number_in (kind.Action a) ≡ [] → number_in (cond c (kind.Control place x) (kind.Action a)) ≡ []
none_by_class number_in true place x a first second = first
none_by_class number_in false place x a first second = second

none_by_output : (number_in : Kind → List ℕ) (c : Bool) (x y : Kind) → number_in x ≡ [] → number_in y ≡ [] → number_in (cond c x y) ≡ []
none_by_output number_in true x y first second = first
none_by_output number_in false x y first second = second

model_kind : (d : ℕ) (b : Bindings) (all : List Seen) (place : ℕ) (r : Seen) (first : Option ℕ) (known : List Shown) (t : Tag) → model_in (kind_by d b all place r first known t) ≡ one_if (is_model t) (number_among class.Model all place)
model_kind d b all place r first known tag.Host = refl
model_kind d b all place r first known tag.Unknown = refl
model_kind d b all place r first known tag.Model = refl
model_kind d b all place r first known tag.Instance = refl
model_kind d b all place r first known tag.Bind = refl
model_kind d b all place r first known tag.Submission = refl
model_kind d b all place r first known tag.Item = refl
model_kind d b all place r first known tag.Itemset = refl
model_kind d b all place r first known tag.Choices = refl
model_kind d b all place r first known tag.Label = refl
model_kind d b all place r first known tag.Value = refl
model_kind d b all place r first known tag.Output = none_by_output model_in (is_inline r) _ _ refl refl
model_kind d b all place r first known t = none_by_class model_in (is_counted r.tag) _ _ _ refl refl

instance_kind : (d : ℕ) (b : Bindings) (all : List Seen) (place : ℕ) (r : Seen) (first : Option ℕ) (known : List Shown) (t : Tag) → instance_in (kind_by d b all place r first known t) ≡ one_if (is_instance t) (number_among class.Instance all place)
instance_kind d b all place r first known tag.Host = refl
instance_kind d b all place r first known tag.Unknown = refl
instance_kind d b all place r first known tag.Model = refl
instance_kind d b all place r first known tag.Instance = refl
instance_kind d b all place r first known tag.Bind = refl
instance_kind d b all place r first known tag.Submission = refl
instance_kind d b all place r first known tag.Item = refl
instance_kind d b all place r first known tag.Itemset = refl
instance_kind d b all place r first known tag.Choices = refl
instance_kind d b all place r first known tag.Label = refl
instance_kind d b all place r first known tag.Value = refl
instance_kind d b all place r first known tag.Output = none_by_output instance_in (is_inline r) _ _ refl refl
instance_kind d b all place r first known t = none_by_class instance_in (is_counted r.tag) _ _ _ refl refl

bind_kind : (d : ℕ) (b : Bindings) (all : List Seen) (place : ℕ) (r : Seen) (first : Option ℕ) (known : List Shown) (t : Tag) → bind_in (kind_by d b all place r first known t) ≡ one_if (has_properties t) (number_among class.Bind all place)
bind_kind d b all place r first known tag.Host = refl
bind_kind d b all place r first known tag.Unknown = refl
bind_kind d b all place r first known tag.Model = refl
bind_kind d b all place r first known tag.Instance = refl
bind_kind d b all place r first known tag.Bind = refl
bind_kind d b all place r first known tag.Submission = refl
bind_kind d b all place r first known tag.Item = refl
bind_kind d b all place r first known tag.Itemset = refl
bind_kind d b all place r first known tag.Choices = refl
bind_kind d b all place r first known tag.Label = refl
bind_kind d b all place r first known tag.Value = refl
bind_kind d b all place r first known tag.Output = none_by_output bind_in (is_inline r) _ _ refl refl
bind_kind d b all place r first known t = none_by_class bind_in (is_counted r.tag) _ _ _ refl refl

submission_kind : (d : ℕ) (b : Bindings) (all : List Seen) (place : ℕ) (r : Seen) (first : Option ℕ) (known : List Shown) (t : Tag) → submission_in (kind_by d b all place r first known t) ≡ one_if (is_submission t) (number_among class.Submission all place)
submission_kind d b all place r first known tag.Host = refl
submission_kind d b all place r first known tag.Unknown = refl
submission_kind d b all place r first known tag.Model = refl
submission_kind d b all place r first known tag.Instance = refl
submission_kind d b all place r first known tag.Bind = refl
submission_kind d b all place r first known tag.Submission = refl
submission_kind d b all place r first known tag.Item = refl
submission_kind d b all place r first known tag.Itemset = refl
submission_kind d b all place r first known tag.Choices = refl
submission_kind d b all place r first known tag.Label = refl
submission_kind d b all place r first known tag.Value = refl
submission_kind d b all place r first known tag.Output = none_by_output submission_in (is_inline r) _ _ refl refl
submission_kind d b all place r first known t = none_by_class submission_in (is_counted r.tag) _ _ _ refl refl

repeat_kind : (d : ℕ) (b : Bindings) (all : List Seen) (place : ℕ) (r : Seen) (first : Option ℕ) (known : List Shown) (t : Tag) → r.tag ≡ t → repeat_in (kind_by d b all place r first known t) ≡ one_if (is_repeat t) (number_among class.Repeat all place)
repeat_kind d b all place r first known tag.Host is = refl
repeat_kind d b all place r first known tag.Unknown is = refl
repeat_kind d b all place r first known tag.Model is = refl
repeat_kind d b all place r first known tag.Instance is = refl
repeat_kind d b all place r first known tag.Bind is = refl
repeat_kind d b all place r first known tag.Submission is = refl
repeat_kind d b all place r first known tag.Item is = refl
repeat_kind d b all place r first known tag.Itemset is = refl
repeat_kind d b all place r first known tag.Choices is = refl
repeat_kind d b all place r first known tag.Label is = refl
repeat_kind d b all place r first known tag.Value is = refl
repeat_kind d b all place r first known tag.Output is = none_by_output repeat_in (is_inline r) _ _ refl refl
repeat_kind d b all place r first known t is = ap (λ x. repeat_in (by_tag d b all place r first known x)) is

switch_kind : (d : ℕ) (b : Bindings) (all : List Seen) (place : ℕ) (r : Seen) (first : Option ℕ) (known : List Shown) (t : Tag) → r.tag ≡ t → switch_in (kind_by d b all place r first known t) ≡ one_if (is_switch t) (number_among class.Switch all place)
switch_kind d b all place r first known tag.Host is = refl
switch_kind d b all place r first known tag.Unknown is = refl
switch_kind d b all place r first known tag.Model is = refl
switch_kind d b all place r first known tag.Instance is = refl
switch_kind d b all place r first known tag.Bind is = refl
switch_kind d b all place r first known tag.Submission is = refl
switch_kind d b all place r first known tag.Item is = refl
switch_kind d b all place r first known tag.Itemset is = refl
switch_kind d b all place r first known tag.Choices is = refl
switch_kind d b all place r first known tag.Label is = refl
switch_kind d b all place r first known tag.Value is = refl
switch_kind d b all place r first known tag.Output is = none_by_output switch_in (is_inline r) _ _ refl refl
switch_kind d b all place r first known t is = ap (λ x. switch_in (by_tag d b all place r first known x)) is

output_place : (c : Bool) (place : ℕ) (x : Kind) (y : Control) → place_in x ≡ [] → place_in (cond c x (kind.Control place y)) ≡ one_if (true && not c) place
output_place true place x y none = none
output_place false place x y none = refl

place_kind : (d : ℕ) (b : Bindings) (all : List Seen) (place : ℕ) (r : Seen) (first : Option ℕ) (known : List Shown) (t : Tag) → r.tag ≡ t
    → place_in (kind_by d b all place r first known t) ≡ one_if (is_counted t && not (is_output t && tells_text r.standing.nearest)) (control_place all place)
place_kind d b all place r first known tag.Host is = refl
place_kind d b all place r first known tag.Unknown is = refl
place_kind d b all place r first known tag.Model is = refl
place_kind d b all place r first known tag.Instance is = refl
place_kind d b all place r first known tag.Bind is = refl
place_kind d b all place r first known tag.Submission is = refl
place_kind d b all place r first known tag.Item is = refl
place_kind d b all place r first known tag.Itemset is = refl
place_kind d b all place r first known tag.Choices is = refl
place_kind d b all place r first known tag.Label is = refl
place_kind d b all place r first known tag.Value is = refl
place_kind d b all place r first known tag.Output is =
    output_place (is_inline r) (control_place all place) _ _ refl ∙ ap (λ x. one_if (true && not (is_output x && tells_text r.standing.nearest)) (control_place all place)) is
place_kind d b all place r first known t is = ap (λ x. place_in (by_tag d b all place r first known x)) is

-- ---- those of a kind

-- the numbers of a kind stand in what its elements are: of each its number among the kind, from this one on
pub record IsCounted (d : ℕ) (b : Bindings) (all : List Seen) (c : Class) (number_in : Kind → List ℕ) (start : ℕ) : Type 0 where
  pub own : Seen → Bool
  pub split : (r : Seen) → is_of c r ≡ (is_numbered r && own r)
  pub value : ℕ → ℕ
  pub from_start : (place : ℕ) → value place ≡ number_among c all place + start
  pub kinds : (place : ℕ) (r : Seen) (first : Option ℕ) (known : List Shown) → number_in (kind_by d b all place r first known r.tag) ≡ one_if (own r) (value place)

zero_more : (all : List Seen) (c : Class) (place : ℕ) → number_among c all place ≡ number_among c all place + 0
zero_more all c place = omega arith

pub models_counted : (d : ℕ) (b : Bindings) (all : List Seen) → IsCounted d b all class.Model model_in 0
models_counted d b all = record { own = λ r. is_model r.tag; split = λ r. refl; value = number_among class.Model all; from_start = zero_more all class.Model; kinds = λ place r first known. model_kind d b all place r first known r.tag }

pub instances_counted : (d : ℕ) (b : Bindings) (all : List Seen) → IsCounted d b all class.Instance instance_in 0
instances_counted d b all = record { own = λ r. is_instance r.tag; split = λ r. refl; value = number_among class.Instance all; from_start = zero_more all class.Instance; kinds = λ place r first known. instance_kind d b all place r first known r.tag }

pub binds_counted : (d : ℕ) (b : Bindings) (all : List Seen) → IsCounted d b all class.Bind bind_in 0
binds_counted d b all = record { own = λ r. has_properties r.tag; split = λ r. refl; value = number_among class.Bind all; from_start = zero_more all class.Bind; kinds = λ place r first known. bind_kind d b all place r first known r.tag }

pub submissions_counted : (d : ℕ) (b : Bindings) (all : List Seen) → IsCounted d b all class.Submission submission_in 0
submissions_counted d b all = record { own = λ r. is_submission r.tag; split = λ r. refl; value = number_among class.Submission all; from_start = zero_more all class.Submission; kinds = λ place r first known. submission_kind d b all place r first known r.tag }

pub repeats_counted : (d : ℕ) (b : Bindings) (all : List Seen) → IsCounted d b all class.Repeat repeat_in 0
repeats_counted d b all = record { own = λ r. is_repeat r.tag; split = λ r. refl; value = number_among class.Repeat all; from_start = zero_more all class.Repeat; kinds = λ place r first known. repeat_kind d b all place r first known r.tag refl }

pub switches_counted : (d : ℕ) (b : Bindings) (all : List Seen) → IsCounted d b all class.Switch switch_in 0
switches_counted d b all = record { own = λ r. is_switch r.tag; split = λ r. refl; value = number_among class.Switch all; from_start = zero_more all class.Switch; kinds = λ place r first known. switch_kind d b all place r first known r.tag refl }

pub controls_counted : (d : ℕ) (b : Bindings) (all : List Seen) → IsCounted d b all class.Control place_in 1
controls_counted d b all = record { own = λ r. is_control_row r; split = λ r. refl; value = control_place all; from_start = λ place. refl; kinds = λ place r first known. place_kind d b all place r first known r.tag refl }

-- ---- row by row

of_push : (c : Class) (before : List Seen) (r : Seen) → count_of c (before ++ r ∷ []) ≡ count_of c before + one_where (is_of c r)
of_push c before r = let sum : count_of c (before ++ r ∷ []) ≡ count_of c before + (0 + one_where (is_of c r)) = sum_by-append (λ x. one_where (is_of c x)) before (r ∷ []) in omega (arith, sum)

among_at : (c : Class) (all before rest : List Seen) → before ++ rest ≡ all → number_among c all (length before) ≡ count_of c before
among_at c all before rest is = ap (λ l. count_of c (take (length before) l)) (sym is) ∙ ap (count_of c) (take_at before rest (length before) refl)

abbrev pairs : ℕ → Bindings → List Seen → ℕ → ℕ → List Seen → List (ℕ × Element)
pairs d b all k n rs = numbered_from k (each_from class.Numbered (element_at d b all) n rs)

abbrev listing : (Kind → List ℕ) → List (ℕ × Element) → List ℕ
listing number_in es = flat_map (λ e. map (λ k. e.0) (number_in e.1.kind)) es

abbrev counting : (Kind → List ℕ) → List (ℕ × Element) → List ℕ
counting number_in es = flat_map (λ e. number_in e.1.kind) es

and_true : (x : Bool) → (x && true) ≡ x
and_true true = refl
and_true false = refl

-- the pairs from an element on, by whether it has a number
pairs_yes : (d : ℕ) (b : Bindings) (all before : List Seen) (r : Seen) (rs : List Seen) → is_numbered r ≡ true
    → pairs d b all (cnt before) (length before) (r ∷ rs) ≡ (cnt before, element_at d b all (length before) r) ∷ pairs d b all (cnt (before ++ r ∷ [])) (length (before ++ r ∷ [])) rs
pairs_yes d b all before r rs holds =
    let kind : is_of class.Numbered r ≡ true = and_true (is_numbered r) ∙ holds in
    let x = element_at d b all (length before) r in
    let more : suc (cnt before) ≡ cnt (before ++ r ∷ []) = let sum = cnt_push before r in let one = ap one_where kind in omega (arith, sum, one) in
    ap (λ c. numbered_from (cnt before) (cond c (x ∷ []) [] ++ each_from class.Numbered (element_at d b all) (suc (length before)) rs)) kind
    ∙ ap (λ k. (cnt before, x) ∷ pairs d b all k (suc (length before)) rs) more ∙ ap (λ n. (cnt before, x) ∷ pairs d b all (cnt (before ++ r ∷ [])) n rs) (sym (length_push before r))

pairs_no : (d : ℕ) (b : Bindings) (all before : List Seen) (r : Seen) (rs : List Seen) → is_numbered r ≡ false
    → pairs d b all (cnt before) (length before) (r ∷ rs) ≡ pairs d b all (cnt (before ++ r ∷ [])) (length (before ++ r ∷ [])) rs
pairs_no d b all before r rs holds =
    let kind : is_of class.Numbered r ≡ false = and_true (is_numbered r) ∙ holds in
    let x = element_at d b all (length before) r in
    let same : cnt before ≡ cnt (before ++ r ∷ []) = let sum = cnt_push before r in let one = ap one_where kind in omega (arith, sum, one) in
    ap (λ c. numbered_from (cnt before) (cond c (x ∷ []) [] ++ each_from class.Numbered (element_at d b all) (suc (length before)) rs)) kind
    ∙ ap (λ k. pairs d b all k (suc (length before)) rs) same ∙ ap (λ n. pairs d b all (cnt (before ++ r ∷ [])) n rs) (sym (length_push before r))

told_number : (c : Bool) (k v : ℕ) → map (λ j. k) (one_if c v) ≡ one_if c k
told_number true k v = refl
told_number false k v = refl

pub listed_from : (d : ℕ) (b : Bindings) (all : List Seen) (c : Class) (number_in : Kind → List ℕ) (start : ℕ) (counted : IsCounted d b all c number_in start) (before rs : List Seen) → before ++ rs ≡ all
    → each_from c (λ place r. number_of all place) (length before) rs ≡ listing number_in (pairs d b all (cnt before) (length before) rs)
listed_from d b all c number_in start counted before [] is = refl
listed_from d b all c number_in start counted before (r ∷ rs) is =
    let n = length before in
    let k = cnt before in
    let place : (before ++ r ∷ []) ++ rs ≡ all = append_assoc before (r ∷ []) rs ∙ is in
    let number : ℕ → Seen → ℕ = λ m x. number_of all m in
    let rest : each_from c number (suc n) rs ≡ listing number_in (pairs d b all (cnt (before ++ r ∷ [])) (length (before ++ r ∷ [])) rs) =
    ap (λ m. each_from c number m rs) (sym (length_push before r)) ∙ listed_from d b all c number_in start counted (before ++ r ∷ []) rs place in
    let first = first_at d b all n in
    let known = known_in b r.attributes in
    elim (cases_Bool (is_numbered r)) [
      | inl t ↦
          let kind : is_of c r ≡ counted.own r = counted.split r ∙ ap (λ x. x && counted.own r) t in
          let own : one_if (is_of c r) (number_of all n) ≡ map (λ j. k) (number_in (kind_by d b all n r first known r.tag)) =
          ap (λ x. one_if x (number_of all n)) kind ∙ ap (one_if (counted.own r)) (num_at all before (r ∷ rs) is) ∙ sym (told_number (counted.own r) k (counted.value n))
          ∙ sym (ap (map (λ j. k)) (counted.kinds n r first known)) in
          ap (λ l. l ++ each_from c number (suc n) rs) own ∙ ap (λ l. map (λ j. k) (number_in (kind_by d b all n r first known r.tag)) ++ l) rest ∙ sym (ap (listing number_in) (pairs_yes d b all before r rs t))
      | inr f ↦
          let kind : is_of c r ≡ false = counted.split r ∙ ap (λ x. x && counted.own r) f in
          ap (λ x. one_if x (number_of all n) ++ each_from c number (suc n) rs) kind ∙ rest ∙ sym (ap (listing number_in) (pairs_no d b all before r rs f))
    ]

next_counts : (own : Bool) (j v : ℕ) (rest : List ℕ) → v ≡ j → count_up (j + one_where own) rest ≡ true → count_up j (one_if own v ++ rest) ≡ true
next_counts true j v rest same later =
    let next : j + 1 ≡ suc j = omega arith in
    and_from (v == j) (count_up (suc j) rest) (ap (λ x. x == j) same ∙ search rules) (ap (λ m. count_up m rest) (sym next) ∙ later)
next_counts false j v rest same later = let none : j ≡ j + 0 = omega arith in ap (λ m. count_up m rest) none ∙ later

pub counted_from : (d : ℕ) (b : Bindings) (all : List Seen) (c : Class) (number_in : Kind → List ℕ) (start : ℕ) (counted : IsCounted d b all c number_in start) (before rs : List Seen) → before ++ rs ≡ all
    → count_up (count_of c before + start) (counting number_in (pairs d b all (cnt before) (length before) rs)) ≡ true
counted_from d b all c number_in start counted before [] is = refl
counted_from d b all c number_in start counted before (r ∷ rs) is =
    let n = length before in
    let place : (before ++ r ∷ []) ++ rs ≡ all = append_assoc before (r ∷ []) rs ∙ is in
    let later = counting number_in (pairs d b all (cnt (before ++ r ∷ [])) (length (before ++ r ∷ [])) rs) in
    let rest : count_up (count_of c (before ++ r ∷ []) + start) later ≡ true = counted_from d b all c number_in start counted (before ++ r ∷ []) rs place in
    let more = of_push c before r in
    let first = first_at d b all n in
    let known = known_in b r.attributes in
    elim (cases_Bool (is_numbered r)) [
      | inl t ↦
          let kind : is_of c r ≡ counted.own r = counted.split r ∙ ap (λ x. x && counted.own r) t in
          let among = among_at c all before (r ∷ rs) is in
          let value : counted.value n ≡ count_of c before + start = counted.from_start n ∙ ap (λ m. m + start) among in
          let one = ap one_where kind in
          let sum : count_of c (before ++ r ∷ []) + start ≡ (count_of c before + start) + one_where (counted.own r) = omega (arith, more, one) in
          ap (λ l. count_up (count_of c before + start) (counting number_in l)) (pairs_yes d b all before r rs t)
          ∙ ap (λ l. count_up (count_of c before + start) (l ++ later)) (counted.kinds n r first known)
          ∙ next_counts (counted.own r) (count_of c before + start) (counted.value n) later value (ap (λ m. count_up m later) (sym sum) ∙ rest)
      | inr f ↦
          let kind : is_of c r ≡ false = counted.split r ∙ ap (λ x. x && counted.own r) f in
          let one = ap one_where kind in
          let sum : count_of c before + start ≡ count_of c (before ++ r ∷ []) + start = omega (arith, more, one) in
          ap (λ l. count_up (count_of c before + start) (counting number_in l)) (pairs_no d b all before r rs f) ∙ ap (λ m. count_up m later) sum ∙ rest
    ]
