-- Where some contents were written, the data hold them: but for the numbers of texts their visits are those that hold what was written.
use Rattle.std.proofs.Common.{◌≡◌, ℕ, ◌+◌, ◌^◌, ◌==◌, ◌&&◌, Bool, true, false, [], ◌∷◌, length, map, sym, ap, ◌∙◌, subst, inl, inr, arith}
use Rattle.std.specs.Prelude.{◌≤◌, is_some}
use Rattle.std.specs.List.{list_any}
use Rattle.std.proofs.lemmas.Bool.{cases_Bool}
use Rattle.std.proofs.lemmas.Bool.Decides.{nat_tests}
use Rattle.xf_def_forest.specs.declared.content.Node.{Node}
use Rattle.xf_def_forest.specs.Forest.{Forest, is_text}
use Rattle.xf_def_forest.specs.Visit.{visits}
use Rattle.xf_def_forest.specs.Same.{renumbered_visit}
use Rattle.xf_def_forest.specs.Shape.{with_contents}
use Rattle.xf_def_forest.specs.WellFormed.{are_first}
use Rattle.xf_law_forests.proofs.RollbackLemmas.Trees.{Trees, none, tree, onto}
use Rattle.xf_law_forests.proofs.RollbackLemmas.TreeVisits.{seen, visits-seen}
use Rattle.xf_law_forests.proofs.RollbackLemmas.TreeShape.{Sound}
use Rattle.xf_law_forests.proofs.RollbackLemmas.TreeOrder.{Ordered, ordered-onto}
use Rattle.xf_law_forests.proofs.RollbackLemmas.KeepingTrees.{stands, any-is}
use Rattle.xf_law_forests.specs.Settle.Written.{Contents, written, MayWrite}
use Rattle.xf_law_forests.specs.Settle.Alike.{content_of, done_of, AreAlike}
use Rattle.xf_law_forests.proofs.SettleLemmas.Put.{put_all}
use Rattle.xf_law_forests.proofs.SettleLemmas.Spots.{Fits}
use Rattle.xf_law_forests.proofs.SettleLemmas.Bridge.{AreReady, written-onto}
use Rattle.xf_law_forests.proofs.SettleLemmas.WrittenLaws.{alone, alone-trees, ready}
use Rattle.xf_law_forests.proofs.SettleLemmas.Held.{Given, hold, Good, holding-seen}
use Rattle.xf_law_forests.proofs.SettleLemmas.Renamed.{renamed-seen}
use Rattle.xf_law_forests.proofs.SettleLemmas.Single.{Facts}
use Rattle.xf_law_forests.proofs.SettleLemmas.Many.{held-all}

good-of : (given : Given) (inside : Bool) (t : Trees) → ((m : ℕ) → is_some (given m) ≡ true → Fits m t) → Sound inside t → Ordered t → Good given t
good-of given inside none fits sound first = tt
good-of given inside (tree m c k r) fits sound first = (
  λ some. (fits m some).0 (same m),
  sound.0,
  first.0,
  good-of given true k (λ n some. (fits n some).1) sound.2 first.1,
  good-of given inside r (λ n some. (fits n some).2) sound.3 first.2,
)
  where
    same : (n : ℕ) → (n == n) ≡ true
    same n = grind (arith, nat_tests)

given-fits : (done : ℕ → Bool) (number : ℕ) (contents : Contents) (t : Trees) → AreReady number contents t → (m : ℕ) → is_some (content_of (done_of done contents) m) ≡ true → Fits m t
given-fits done number [] t h m some = let no : false ≡ true = some in cc
given-fits done number ((n, text) ∷ rest) t h m some =
    let next = given-fits done number rest t h.3 m in
    elim (cases_Bool (done n)) [
      | inl e ↦
          elim (cases_Bool (n == m)) [
            | inl q ↦ let same : n ≡ m = grind (arith, nat_tests, q) in subst (λ k. Fits k t) same h.0
            | inr q ↦ next (rw (e, q) at some)
          ]
      | inr e ↦ next (rw e at some)
    ]

-- the visits of what was written
pub written-alike : (done : ℕ → Bool) (number : ℕ) (contents : Contents) (forest : Forest) → MayWrite number contents forest → number + length contents ≤ 2 ^ 128
    → AreAlike number forest.nodes (with_contents (content_of (done_of done contents)) (visits forest.nodes)) (visits (written done number contents forest.nodes))
written-alike done number contents forest may small =
    let s = stands (alone forest) (alone-trees forest may.trees) in
    let t = s.trees in
    let nodes : forest.nodes ≡ onto 0 t [] = s.nodes in
    let are_ready = ready forest s number may.later contents may.settable in
    let first : Ordered t = ordered-onto 0 t [] (subst (λ l. are_first l ≡ true) nodes may.trees.first) in
    let late = may.later in
    let facts : Facts number t = record {
      once = λ m. let o = s.once m in omega (arith, o);
      old = λ m le. s.old m (omega (arith, le, late));
      first = first;
    } in
    let given = content_of (done_of done contents) in
    let same = held-all done number contents t are_ready may.different facts small in
    let held : with_contents given (visits forest.nodes) ≡ seen [] (hold given t) [] =
    ap (λ l. with_contents given (visits l)) nodes ∙ holding-seen given t (good-of given false t (given-fits done number contents t are_ready) s.sound first) in
    let now : visits (written done number contents forest.nodes) ≡ seen [] (put_all done number contents t) [] =
    ap visits (ap (written done number contents) nodes ∙ written-onto done number contents t are_ready) ∙ visits-seen (put_all done number contents t) in
    record {
      by = same.by;
      renumbers = same.renumbers;
      stays = λ n less plain. same.stays n less (sym (any-is is_text n t) ∙ ap (list_any (λ (x : Node). (x.number == n) && is_text x.content)) (sym nodes) ∙ plain);
      visits = ap (map (renumbered_visit same.by)) held ∙ sym (renamed-seen same.by [] (hold given t) []) ∙ ap (λ x. seen [] x []) same.is ∙ sym now;
    }
