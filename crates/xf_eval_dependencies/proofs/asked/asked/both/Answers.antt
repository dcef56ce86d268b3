use Rattle.std.proofs.Common.{refl, ap}
use Rattle.std.specs.List.{list_all}
use Rattle.xf_eval_shape.specs.Spots.{is_spot, numbers_at}
use Rattle.xf_eval_dependencies.proofs.AskedLemmas.Tellings.{looks-both, reads-both, reads-stand}
use Rattle.xf_eval_dependencies.proofs.asked.asked.both.Goals as goal

pub returns-clause-tells : goal.returns-clause-tells
returns-clause-tells c = λ nodes a b t u. record {
  set = ap numbers_at c.new.ensures.items;
  is_loose = refl;
  is_truth = refl;
  reads = reads-both nodes c.args.one c.args.other a b t u _ c.in_ok-append.ensures;
  looks = looks-both nodes c.args.one c.args.other a b t u _ c.in_ok-append-2.ensures;
}

pub returns-clause-stands : goal.returns-clause-stands
returns-clause-stands c = λ nodes s t. record {
  set = ap (λ l. list_all (is_spot nodes) l) c.new.ensures.items;
  reads = reads-stand nodes c.args.one.reads c.args.other.reads _ c.in_ok-append.ensures s.reads t.reads;
}
