use Rattle.std.proofs.Common.{length, sym, subst}
use Rattle.xf_tree_walks.specs.Siblings.{AllPlaces}
use Rattle.xf_tree_walks.proofs.PathTextLemmas.{places-more, all-snoc, still-within, here-within}
use Rattle.xf_tree_walks.proofs.path.places_up.Goals as goal

pub loop-next-preserved : goal.loop-next-preserved
loop-next-preserved c =
    let rows = c.args.rows.now.items in
    let i = c.loop-next.invariant in
    let here = here-within c.loop-next.next c.in-Some.place (length rows) i.next c.in-Some.is in
    record {
      so_far = places-more rows c.loop-next.places.items c.push.new.self.items c.in-Some.place c.loop-next.next c.parent_row-next.result _ c.in_ok-push.ensures.items c.in-Some.is c.parent_row-next.ensures.answer i.so_far;
      within = subst (AllPlaces rows) (sym c.in_ok-push.ensures.items) (all-snoc rows c.loop-next.places.items c.in-Some.place i.within here);
      next = still-within c.parent_row-next.result c.in-Some.place (length rows) c.parent_row-next.ensures.within here;
    }
