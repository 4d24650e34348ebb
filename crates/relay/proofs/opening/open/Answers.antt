use Rattle.std.proofs.Common.{◌≡◌, ◌*◌, ◌≤◌, ◌++◌, length, take, replicate, drop, sym, ap, ◌∙◌, subst, rules}
use Rattle.stores.proofs.Fills.{given_always}
use Rattle.protocol.specs.Lines as lin
use Rattle.records.specs.Blanks.{blank_line_record, blank_seat_record}
use Rattle.records.specs.Means.{line_means, seat_means}
use Rattle.relay.specs.Opening.{cleared, fresh_seat, opened}
use Rattle.relay.specs.RelayState.{relay_state}
use Rattle.relay.specs.Sheets.{seats_mean, lines_mean}
use Rattle.relay.proofs.Openings.{cleared_means, first_set, opened_by, few_opened, fits_opened}
use Rattle.relay.proofs.opening.open.Goals as goal

pub returns-in-Ok-clause-state : goal.returns-in-Ok-clause-state
returns-in-Ok-clause-state g c =
    let code = g.V.Kind.code in
    let row = g.B.Bank.row c.args.bank in
    let m = c.args.m in
    let n = c.size.result in
    let nothing = code g.V.Kind.nothing in
    let S = seats_mean code c.args.seats.now in
    let L = lines_mean code c.args.lines.now in
    let w = c.in-Ok.ensures.within in
    let first = given_always _ _ c.blank-seat.result (λ x q r. search rules) c.fill_with.new.self c.fill_with.ensures.ran.0 c.fill_with.ensures.ran.1 in
    let own = given_always _ _ c.blank-line.result (λ x q r. search rules) c.fill_with-in-Ok.new.self c.fill_with-in-Ok.ensures.ran.0 c.fill_with-in-Ok.ensures.ran.1 in
    let seats = cleared_means (seat_means code) c.blank-seat.result (fresh_seat nothing) m c.args.seats.now c.fill_with.new.self w.1 c.blank-seat.ensures.means (first ∙ ap (λ k. replicate k c.blank-seat.result) c.fill_with.ensures.len) in
    let lines = cleared_means (line_means code) c.blank-line.result lin.blank_line (m * n) c.args.lines.now c.fill_with-in-Ok.new.self (subst (λ n. m * n ≤ length c.args.lines.now) (sym c.size.ensures) w.2) c.blank-line.ensures.means (own ∙ ap (λ k. replicate k c.blank-line.result) c.fill_with-in-Ok.ensures.len) in
    ap (λ q. relay_state code row q (c.fill_with.new.self ++ drop m c.args.seats.now) (c.fill_with-in-Ok.new.self ++ drop (m * n) c.args.lines.now)) c.new-inner.ensures
    ∙ (opened_by m row seats (lines ∙ ap (λ n. cleared lin.blank_line (m * n) L) c.size.ensures)
    ∙ ap (λ o. opened o m nothing row S L) c.in-Ok.ensures.answer)

pub returns-in-Ok-clause-cleared : goal.returns-in-Ok-clause-cleared
returns-in-Ok-clause-cleared g c =
    let m = c.args.m in
    let n = c.size.result in
    let w = c.in-Ok.ensures.within in
    let first = given_always _ _ c.blank-seat.result (λ x q r. search rules) c.fill_with.new.self c.fill_with.ensures.ran.0 c.fill_with.ensures.ran.1 in
    let own = given_always _ _ c.blank-line.result (λ x q r. search rules) c.fill_with-in-Ok.new.self c.fill_with-in-Ok.ensures.ran.0 c.fill_with-in-Ok.ensures.ran.1 in
    let lines = first_set c.blank-line.result blank_line_record (m * n) c.args.lines.now c.fill_with-in-Ok.new.self (subst (λ n. m * n ≤ length c.args.lines.now) (sym c.size.ensures) w.2) (own ∙ ap (λ k. replicate k c.blank-line.result) c.fill_with-in-Ok.ensures.len) c.blank-line.ensures.whole in
    record {
      seats = first_set c.blank-seat.result (blank_seat_record g.V.Kind.nothing) m c.args.seats.now c.fill_with.new.self w.1 (first ∙ ap (λ k. replicate k c.blank-seat.result) c.fill_with.ensures.len) c.blank-seat.ensures.whole;
      lines = subst (λ k. take (m * k) (c.fill_with-in-Ok.new.self ++ drop (m * n) c.args.lines.now) ≡ replicate (m * k) blank_line_record) c.size.ensures lines;
    }

pub invariant_of-result : goal.invariant_of-result
invariant_of-result g c = record {
  few = λ _. few_opened c.args.m (g.B.Bank.row c.args.bank) (length c.args.seats.now) (length c.args.lines.now) c.in-Ok.ensures.answer;
  fits = λ _. fits_opened c.args.m (g.B.Bank.row c.args.bank) (length c.args.seats.now) (length c.args.lines.now) c.in-Ok.ensures.answer;
}
