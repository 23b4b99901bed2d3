-- Replies to heads that are not those of requests which are answered.
use Rattle.std.proofs.Common.{◌≡◌, ℕ, Bool, true, false, List, [], None, sym, ap, ◌∙◌, subst}
use Rattle.std.specs.Prelude.{IfOk, Result, Ok, Err}
use Rattle.std.proofs.lemmas.Bool.{false≢true}
use Rattle.gs_ai.specs.declared.row.AiRow.{AiRow}
use Rattle.gs_chars.specs.declared.memory.Memory.{Memory}
use Rattle.gs_links.specs.declared.link.Link.{Link}
use Rattle.httparse.specs.Grammar.{RequestHead}
use Rattle.httparse.proofs.GrammarLemmas.{request_unique}
use Rattle.gs_http.specs.declared.replies.Reply.{Reply}
use Rattle.gs_http.specs.declared.resolver.Settings.{Settings}
use Rattle.gs_http.specs.Heads.{Asked, IsAsked, IsWhole, asked_of, is_rejected}
use Rattle.gs_http.specs.Replies.{IsReply, reply_of}

pub no_head : (head : List ℕ) → ((h : RequestHead) → IsWhole head h → ⊥) → IsAsked head None
no_head head none = λ asked is. none is.h is.whole

pub rejected_head : (head : List ℕ) (h : RequestHead) → IsWhole head h → is_rejected head (asked_of h).fields ≡ true → IsAsked head None
rejected_head head h whole rejected = λ asked is.
    let same = (request_unique head is.h h [] [] is.whole.reads whole.reads).0 in
    let says : asked ≡ asked_of h = is.says ∙ ap asked_of same in
    let taken : is_rejected head (asked_of h).fields ≡ false = subst (λ (a : Asked). is_rejected head a.fields ≡ false) says is.taken in
    false≢true (sym taken ∙ rejected)

pub rejection_is : (table : List AiRow) (links : List Link) (settings : Settings) (head : List ℕ) (last : Bool) (r : Result Reply Memory)
    → IsAsked head None → IfOk r (λ reply. reply ≡ reply_of table links settings None last) → IfOk r (IsReply table links settings head last)
rejection_is table links settings head last (Ok reply) none e = record { asked = None; is_asked = none; is_reply = e }
rejection_is table links settings head last (Err memory) none e = tt
