use Rattle.std.proofs.Common.{◌≡◌, map, true}
use Rattle.std.specs.List.{list_all}
use Rattle.gs_http.proofs.documents.fill_all.Given as goal

abbrev pub invariant-loop-thing : goal.invariant-loop-thing
invariant-loop-thing g l = record {
  value : l.made.items ≡ map (g.T.Template.filled l.identity) l.yielded;
  shape : list_all g.T.Template.shape l.yielded ≡ true → list_all g.T.Template.shape l.made.items ≡ true;
}
