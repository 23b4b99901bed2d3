use Rattle.std.specs.Prelude.{Bool, codes, if◌then◌else◌, length}
use Rattle.std.proofs.Common.{◌≡◌, ◌++◌, ◌∙◌, ℕ, List, [], append_assoc, ap, sym}
use Rattle.std.proofs.lemmas.Result.{IfOk-weaker}
use Rattle.gs_http.specs.Answers.{Answer}
use Rattle.gs_http.specs.LentValues.{said}
use Rattle.gs_http.specs.Replies.{body_of, close_field, length_field, line, own_field, reply_bytes, status_of}
use Rattle.gs_http.proofs.replies.reply_bytes.Goals as goal

-- the end of the head is the close field and an empty line
ends : (head_only close : Bool) (answer : Answer) (len end last : List ℕ) → len ≡ length_field (length (body_of answer))
    → end ≡ close_field close ++ line [] → last ≡ (if head_only then [] else body_of answer)
    → (((line (codes "HTTP/1.1 " ++ status_of answer) ++ own_field answer) ++ len) ++ end) ++ last ≡ reply_bytes head_only close answer
unfolding reply_bytes
ends head_only close answer len end last h i j = rw (h, i, j)
    (ap (λ front. front ++ (if head_only then [] else body_of answer))
    (sym (append_assoc ((line (codes "HTTP/1.1 " ++ status_of answer) ++ own_field answer) ++ length_field (length (body_of answer))) (close_field close) (line []))))

pub returns : goal.returns
returns c = IfOk-weaker c.written.result _ _
    (λ bytes same. same ∙ ends c.args.head_only c.args.close (said c.args.answer.now) _ _ _
    (c.as_bytes.ensures.value ∙ (rw c.body_of-body.ensures at c.in_ok-length.ensures.ok)) c.head_end.ensures (rw c.body_of-body.ensures at c.sent_body.ensures))
    c.written.ensures
