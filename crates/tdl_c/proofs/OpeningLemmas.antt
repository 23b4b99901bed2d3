-- A session that is not put on the heap is rejected as the opening was, or because memory ran out.
use Rattle.std.proofs.Common.{sym, subst}
use Rattle.std.specs.Prelude.{Result, Ok, Err}
use Rattle.tdl_c.specs.Calls.{IsBoxed}
use Rattle.tdl_session.specs.Sessions.{SessionData}
use Rattle.tdl_session.specs.declared.opening.Unopened.{Unopened}
use Rattle.tdl_session.specs.declared.opening.Unopened.TheVariants.{Memory}

pub unboxed : (P : Result SessionData Unopened → Type 0) → P (Err Memory) → (opened : Result SessionData Unopened) (why : Unopened) → P opened → IsBoxed opened (Err why) → P (Err why)
unboxed P memory (Ok session) why holds is = subst (λ (w : Unopened). P (Err w)) (sym is) memory
unboxed P memory (Err error) why holds is = subst (λ (w : Unopened). P (Err w)) (sym is) holds
