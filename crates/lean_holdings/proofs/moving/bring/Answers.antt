-- What both pages have of their own came.
use Rattle.std.proofs.Common.{refl, subst}
use Rattle.std.specs.Prelude.{IfOk}
use Rattle.parts_exchange.specs.Exchanged.{HasExchangedParts, own_part, shared_part}
use Rattle.lean_holdings.proofs.Results.{if_each}
use Rattle.lean_holdings.proofs.moving.bring.Goals as goal

pub returns-in-Differing-clause-brought : goal.returns-in-Differing-clause-brought
returns-in-Differing-clause-brought c = rw c.in-Differing.is (if_each c.exchange_difference.result (λ done is x is_counted before after named tells. record {
  exchanged = subst
      (λ r. IfOk r (HasExchangedParts c.args.store.now c.exchange_difference.new.store c.args.keys.rising.now (own_part is_counted x before) (own_part is_counted x after) (shared_part is_counted x after)))
      is (c.exchange_difference.ensures.exchanged x is_counted before after tells.apart tells.keyed).done;
  rest = c.exchange_difference.ensures.rest;
  counted = refl;
  named = λ y. refl;
}))

pub returns-in-Differing-clause-full : goal.returns-in-Differing-clause-full
returns-in-Differing-clause-full c = rw c.in-Differing.is (λ is x is_counted before after tells. (c.exchange_difference.ensures.exchanged x is_counted before after tells.apart tells.keyed).full is)
