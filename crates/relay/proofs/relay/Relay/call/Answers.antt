use Rattle.std.proofs.Common.{refl, sym, ◌∙◌}
use Rattle.relay.proofs.Placing.{if_ok, ok_alike}
use Rattle.relay.proofs.relay.Relay.call.Goals as goal

pub returns-in-BeginRead-clause-refusal : goal.returns-in-BeginRead-clause-refusal
returns-in-BeginRead-clause-refusal g c = λ e. let h = c.begin_read.ensures.refusal (sym c.accepted-in-BeginRead.ensures.alike ∙ e) in (h.0, h.1, refl, refl)

pub returns-in-Post-clause-refusal : goal.returns-in-Post-clause-refusal
returns-in-Post-clause-refusal g c = λ e. (refl, c.post.ensures.refusal (sym c.accepted-in-Post.ensures.alike ∙ e), refl, refl)

pub returns-in-Land-clause-refusal : goal.returns-in-Land-clause-refusal
returns-in-Land-clause-refusal g c = λ e. let same = c.land.ensures.refusal (sym c.accepted-in-Land.ensures.alike ∙ e) in (refl, same.0, c.land.ensures.inner, same.1)

pub returns-in-Stop-clause-refusal : goal.returns-in-Stop-clause-refusal
returns-in-Stop-clause-refusal g c = λ e. (c.stop.ensures.refusal (sym c.accepted-in-Stop.ensures.alike ∙ e), refl, refl, refl)

pub returns-in-Lose-clause-refusal : goal.returns-in-Lose-clause-refusal
returns-in-Lose-clause-refusal g c = λ e. (refl, refl, c.lose.ensures.refusal (sym c.accepted-in-Lose.ensures.alike ∙ e), c.lose.ensures.bank)

pub returns-in-Fetch-clause-refusal : goal.returns-in-Fetch-clause-refusal
returns-in-Fetch-clause-refusal g c = λ e. let h = c.fetch.ensures.refusal e in (h.0, h.1, h.2, c.fetch.ensures.bank)

pub returns-in-BeginRead-clause-others : goal.returns-in-BeginRead-clause-others
returns-in-BeginRead-clause-others g c =
    rw c.in-BeginRead.is (ok_alike _ _ c.accepted-in-BeginRead.result c.begin_read.result c.accepted-in-BeginRead.ensures.alike (λ h. h) c.begin_read.ensures.others)

pub returns-in-Post-clause-others : goal.returns-in-Post-clause-others
returns-in-Post-clause-others g c =
    rw c.in-Post.is (ok_alike _ _ c.accepted-in-Post.result c.post.result c.accepted-in-Post.ensures.alike (λ h. (refl, h)) c.post.ensures.others)

pub returns-in-Land-clause-others : goal.returns-in-Land-clause-others
returns-in-Land-clause-others g c =
    rw c.in-Land.is (ok_alike _ _ c.accepted-in-Land.result c.land.result c.accepted-in-Land.ensures.alike (λ h. (refl, h)) c.land.ensures.others)

pub returns-in-Stop-clause-others : goal.returns-in-Stop-clause-others
returns-in-Stop-clause-others g c =
    rw c.in-Stop.is (ok_alike _ _ c.accepted-in-Stop.result c.stop.result c.accepted-in-Stop.ensures.alike (λ h. (h, refl)) c.stop.ensures.others)

pub returns-in-Lose-clause-others : goal.returns-in-Lose-clause-others
returns-in-Lose-clause-others g c = rw c.in-Lose.is (if_ok c.accepted-in-Lose.result (refl, refl))
