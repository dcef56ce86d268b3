-- What a literal number keeps of nodes of the shape.
use Rattle.std.proofs.Common.{◌≡◌, ℕ, zero, suc, ◌-◌, ◌<◌, Bool, true, false, ◌&&◌, List, [], ◌∷◌, map, length, Option, Some, None, option_map, refl, sym, ap, ◌∙◌, slice_get}
use Rattle.std.specs.List.{list_all}
use Rattle.std.proofs.lemmas.Option.{slice_get-map}
use Rattle.xf_def_syntax.specs.declared.expr.Expr.{Expr}
use Rattle.xf_def_syntax.specs.declared.expr.Expr.TheVariants as expr
use Rattle.xf_def_forest.proofs.BackLaws.{and-true}
use Rattle.xf_def_values.specs.Conversions.{Decimal}
use Rattle.xf_def_xpath.specs.declared.value.Value.TheVariants.{Number}
use Rattle.xf_def_xpath.specs.Binding.{as_list}
use Rattle.xf_def_xpath.specs.Meaning.{meaning}
use Rattle.xf_def_xpath.specs.Setting.{Setting, ◌>>=◌}
use Rattle.xf_def_xpath.specs.Steps.{is_true_at, kept_by_all, kept_from, with_first}
use Rattle.xf_def_xpath.proofs.Equations.{meaning-Number}
use Rattle.xf_def_xpath.proofs.VisitFacts.{some-same, none-some}
use Rattle.xf_eval.specs.Places.{Keeps, at_position, constant}
use Rattle.xf_eval.specs.Worth.{setting_in}
use Rattle.xf_eval.proofs.Positions.{before-place}
use Rattle.xf_eval_shape.specs.declared.spot.Spot.{Spot}
use Rattle.xf_eval_shape.specs.Spots.{number_at, numbers_at}

both-hold : (a b : Bool) → a ≡ true → b ≡ true → (a && b) ≡ true
both-hold true b h i = i
both-hold false b h i = h

-- the item at a place is one of all
pub all-get : {X : Type 0} (p : X → Bool) (xs : List X) (at : ℕ) (x : X) → list_all p xs ≡ true → slice_get xs at ≡ Some x → p x ≡ true
all-get p [] at x h e = none-some e
all-get p (y ∷ ys) zero x h e = ap p (sym (some-same e)) ∙ (and-true _ _ h).0
all-get p (y ∷ ys) (suc at) x h e = all-get p ys at x (and-true _ _ h).1 e

-- the node at the place before a position
pub placed-some : (spots : List Spot) (place : ℕ) (spot : Spot) → 0 < place → slice_get spots (place - 1) ≡ Some spot → number_at spot ∷ [] ≡ as_list (at_position (numbers_at spots) place)
placed-some spots place spot l e = sym (ap as_list (before-place (numbers_at spots) place l ∙ slice_get-map number_at spots (place - 1) ∙ ap (option_map number_at) e))

pub placed-none : (spots : List Spot) (place : ℕ) → 0 < place → slice_get spots (place - 1) ≡ None → [] ≡ as_list (at_position (numbers_at spots) place)
placed-none spots place l e = sym (ap as_list (before-place (numbers_at spots) place l ∙ slice_get-map number_at spots (place - 1) ∙ ap (option_map number_at) e))

-- ---- the same nodes

pub keeps-same : (d : ℕ) (k : Decimal) (ns ms kept left : List ℕ) → ns ≡ ms → left ≡ kept → Keeps d k ns kept → Keeps d k ms left
keeps-same d k ns ms kept left e i h = λ s size same. ap (kept_from s (constant k) size 1) (sym e) ∙ h s size same ∙ ap Some (sym i)

-- ---- what is kept is some of them

kept-all : (s : Setting) (k : Decimal) (size position : ℕ) (p : ℕ → Bool) (ns kept : List ℕ) → kept_from s (constant k) size position ns ≡ Some kept → list_all p ns ≡ true → list_all p kept ≡ true
kept-all s k size position p [] kept e h = ap (list_all p) (sym (some-same e))
kept-all s k size position p (n ∷ ns) kept e h = by (kept_from s (constant k) size (suc position) ns) (kept-all s k size (suc position) p ns) e
  where
    first : (b : Bool) (rest : List ℕ) → list_all p rest ≡ true → list_all p (with_first n b rest) ≡ true
    first true rest i = both-hold (p n) (list_all p rest) (and-true _ _ h).0 i
    first false rest i = i

    by : (m : Option (List ℕ)) → ((rest : List ℕ) → m ≡ Some rest → list_all p ns ≡ true → list_all p rest ≡ true) → (m >>= λ rest. Some (with_first n (is_true_at s.given.decimals position (Number k)) rest)) ≡ Some kept → list_all p kept ≡ true
    by None below i = none-some i
    by (Some rest) below i = ap (list_all p) (sym (some-same i)) ∙ first (is_true_at s.given.decimals position (Number k)) rest (below rest refl (and-true _ _ h).1)

pub keeps-all : (d : ℕ) (k : Decimal) (p : ℕ → Bool) (ns kept : List ℕ) → Keeps d k ns kept → list_all p ns ≡ true → list_all p kept ≡ true
keeps-all d k p ns kept h i = kept-all (setting_in d []) k 0 1 p ns kept (h (setting_in d []) 0 refl) i

-- ---- the literal as a predicate

pub number-kept : (d : ℕ) (s : Setting) (predicate : Expr) (place : ℕ) (k : Decimal) (size : ℕ) (ns kept : List ℕ) → predicate ≡ expr.Number place k → Keeps d k ns kept → d ≡ s.given.decimals →
    kept_from s (meaning predicate) size 1 ns ≡ Some kept
number-kept d s predicate place k size ns kept e h same = ap (λ m. kept_from s m size 1 ns) (ap meaning e ∙ meaning-Number place k) ∙ h s size same

pub number-first : (d : ℕ) (s : Setting) (predicates rest : List Expr) (place : ℕ) (k : Decimal) (ns kept : List ℕ) → predicates ≡ expr.Number place k ∷ rest → Keeps d k ns kept → d ≡ s.given.decimals →
    kept_by_all s (map meaning predicates) ns ≡ kept_by_all s (map meaning rest) kept
number-first d s predicates rest place k ns kept e h same =
    ap (λ es. kept_by_all s (map meaning es) ns) e
    ∙ ap (λ m. m >>= kept_by_all s (map meaning rest)) (number-kept d s (expr.Number place k) place k (length ns) ns kept refl h same)
