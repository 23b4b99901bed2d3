use Rattle.std.proofs.Common.{sym}
use Rattle.std.proofs.lemmas.List.{drop-drop}
use Rattle.gs_http.proofs.buffer.Buffer.let_go.Goals as goal

pub returns : goal.returns
returns c = rw (← c.self.view_is) (sym (drop-drop c.args.len c.self.inside.gone c.self.inside.bytes.items))
