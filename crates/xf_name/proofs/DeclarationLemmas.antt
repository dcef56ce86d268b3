-- Declarations only add.
use Rattle.std.proofs.Common.{◌≡◌, ℕ, ◌+◌, ◌<◌, ◌≤◌, List, [], ◌∷◌, ◌++◌, map, length, drop, get_or, Bool, true, false, cond, ltb, ◌||◌, is_some, is_none, unwrap_or, ◌&&◌, refl, sym, ap, ◌∙◌, arith, tests, length-append, Err, Bor}
use Rattle.std.proofs.lemmas.Bool.{false≢true}
use Rattle.std.proofs.lemmas.List.{drop_more}
use Rattle.xf_name.specs.Part.{Kind, no_declaration, of_default, of_prefix, kind_of, is_part}
use Rattle.xf_name.specs.Bindings.{Bindings, space_number, prefix_numbers}
use Rattle.xf_name.specs.Declarations.{with_space, with_prefix, with_last_prefix, with_kind, with_attributes, are_too_many}
use Rattle.xf_name.specs.Declares.{Declares, GivesTables}
use Rattle.xf_name.specs.Shown.{Shown, shown_by, with_shown}
use Rattle.xf_name.specs.declared.fault.SurveyFault.{SurveyFault}
use Rattle.xf_name.specs.declared.fault.SurveyFault.TheVariants.{TooMany, Memory}
use Rattle.xf_name.specs.declared.lit.LitElement.{LitElement}
use Rattle.xf_name.specs.declared.lit.Pair.{Pair}

pub record Grows (old new : Bindings) : Type 0 where
  pub spaces : length old.spaces ≤ length new.spaces
  pub prefixes : length old.prefixes ≤ length new.prefixes

grown : (a b c : Bindings) → Grows a b → Grows b c → Grows a c
grown a b c g h = record { spaces = omega arith; prefixes = omega arith }

stays : (b : Bindings) → Grows b b
stays b = record { spaces = omega arith; prefixes = omega arith }

space_by : (t : Bool) (b : Bindings) (uri : List ℕ) → Grows b (cond t b (record b { spaces = b.spaces ++ uri ∷ [] }))
space_by true b uri = stays b
space_by false b uri = record { spaces = omega (arith, length-append b.spaces (uri ∷ [])); prefixes = omega arith }

with_space-grows : (b : Bindings) (uri : List ℕ) → Grows b (with_space b uri)
with_space-grows b [] = stays b
with_space-grows b (c ∷ cs) = space_by (is_some (space_number b (c ∷ cs))) b (c ∷ cs)

prefix_by : (t : Bool) (b more : Bindings) → Grows b more → Grows b (cond t more b)
prefix_by true b more g = g
prefix_by false b more g = stays b

with_last_prefix-grows : (b : Bindings) (name uri : List ℕ) → Grows b (with_last_prefix b name uri)
with_last_prefix-grows b name uri = record { spaces = omega arith; prefixes = omega (arith, length-append b.prefixes ((name, unwrap_or (space_number b uri) 0) ∷ [])) }

with_prefix-grows : (b : Bindings) (name uri : List ℕ) → Grows b (with_prefix b name uri)
with_prefix-grows b name [] = stays b
with_prefix-grows b name (c ∷ cs) =
    prefix_by (is_part name && is_none (prefix_numbers b name)) b _ (grown b (with_space b (c ∷ cs)) (with_last_prefix (with_space b (c ∷ cs)) name (c ∷ cs)) (with_space-grows b (c ∷ cs)) (with_last_prefix-grows (with_space b (c ∷ cs)) name (c ∷ cs)))

with_kind-grows : (b : Bindings) (kind : Kind) (text : List ℕ) → Grows b (with_kind b kind text)
with_kind-grows b no_declaration text = stays b
with_kind-grows b of_default text = with_space-grows b text
with_kind-grows b (of_prefix name) text = with_prefix-grows b name text

pub with_attributes-grows : (b : Bindings) (ps : List Pair) → Grows b (with_attributes b ps)
with_attributes-grows b [] = stays b
with_attributes-grows b (p ∷ ps) = grown b (with_kind b (kind_of p.name) p.text) _ (with_kind-grows b (kind_of p.name) p.text) (with_attributes-grows (with_kind b (kind_of p.name) p.text) ps)

pub with_shown-grows : (b : Bindings) (es : List Shown) → Grows b (with_shown b es)
with_shown-grows b [] = stays b
with_shown-grows b (e ∷ es) = grown b (with_attributes b e.1) _ (with_attributes-grows b e.1) (with_shown-grows (with_attributes b e.1) es)

more_still : (m n limit : ℕ) → m ≤ n → ltb limit m ≡ true → ltb limit n ≡ true
more_still m n limit more h = search (tests, arith)

or_true : (c : Bool) → (c || true) ≡ true
or_true true = refl
or_true false = refl

either_still : (a b c d : Bool) → (a ≡ true → c ≡ true) → (b ≡ true → d ≡ true) → (a || b) ≡ true → (c || d) ≡ true
either_still true b c d f g h = ap (λ t. t || d) (f refl)
either_still false true c true f g h = or_true c
either_still false true c false f g h = absurd (false≢true (g refl))
either_still false false c d f g h = cc

-- what is too much stays so
pub too_many_still : (old new : Bindings) → Grows old new → are_too_many old ≡ true → are_too_many new ≡ true
too_many_still old new g h =
    either_still (ltb 256 (length old.spaces)) (ltb 32768 (length old.prefixes)) _ _ (more_still (length old.spaces) (length new.spaces) 256 g.spaces)
    (more_still (length old.prefixes) (length new.prefixes) 32768 g.prefixes) h

-- the first of the attributes that are left
pub attributes_step : (start b : Bindings) (ps : List Pair) (i : ℕ) (p : Pair) → i < length ps → p ≡ get_or ps i p → with_attributes start ps ≡ with_attributes b (drop i ps)
    → with_attributes start ps ≡ with_attributes (with_kind b (kind_of p.name) p.text) (drop (i + 1) ps)
attributes_step start b ps i p within is so_far = so_far ∙ ap (with_attributes b) (drop_more ps i p within ∙ ap (λ x. x ∷ drop (i + 1) ps) (sym is))

pub attributes_too_many : (start b : Bindings) (ps : List Pair) (i : ℕ) (p : Pair) → i < length ps → p ≡ get_or ps i p → with_attributes start ps ≡ with_attributes b (drop i ps)
    → are_too_many (with_kind b (kind_of p.name) p.text) ≡ true → are_too_many (with_attributes start ps) ≡ true
attributes_too_many start b ps i p within is so_far many =
    let next : Bindings = with_kind b (kind_of p.name) p.text in
    ap are_too_many (attributes_step start b ps i p within is so_far) ∙ too_many_still next (with_attributes next (drop (i + 1) ps)) (with_attributes-grows next (drop (i + 1) ps)) many

-- a fault on the way is one of the whole
pub failed_later : (fault : SurveyFault) (now next all : Bindings) → (are_too_many next ≡ true → are_too_many all ≡ true) → Declares (Err fault) now next → Declares (Err fault) now all
failed_later TooMany now next all still h = still h
failed_later Memory now next all still h = tt

pub failed_whole : (fault : SurveyFault) (now next all : Bindings) → (are_too_many next ≡ true → are_too_many all ≡ true) → Declares (Err fault) now next → GivesTables (Err fault) all
failed_whole TooMany now next all still h = still h
failed_whole Memory now next all still h = tt

-- the first of the elements that are left
pub elements_step : (start b : Bindings) (es : List (Bor LitElement)) (i : ℕ) (e : Bor LitElement) → i < length es → e ≡ get_or es i e → with_shown start (map shown_by es) ≡ with_shown b (map shown_by (drop i es))
    → with_shown start (map shown_by es) ≡ with_shown (with_attributes b e.now.attributes) (map shown_by (drop (i + 1) es))
elements_step start b es i e within is so_far = so_far ∙ ap (λ xs. with_shown b (map shown_by xs)) (drop_more es i e within ∙ ap (λ x. x ∷ drop (i + 1) es) (sym is))

pub elements_too_many : (start b : Bindings) (es : List (Bor LitElement)) (i : ℕ) (e : Bor LitElement) → i < length es → e ≡ get_or es i e → with_shown start (map shown_by es) ≡ with_shown b (map shown_by (drop i es))
    → are_too_many (with_attributes b e.now.attributes) ≡ true → are_too_many (with_shown start (map shown_by es)) ≡ true
elements_too_many start b es i e within is so_far many =
    let next : Bindings = with_attributes b e.now.attributes in
    ap are_too_many (elements_step start b es i e within is so_far) ∙ too_many_still next (with_shown next (map shown_by (drop (i + 1) es))) (with_shown-grows next (map shown_by (drop (i + 1) es))) many
