use Rattle.std.proofs.Common.{rules}
use Rattle.spaces.specs.OrdersLemmas.{keeps_orders}
use Rattle.spaces.proofs.order.OrderLayer.new.Goals as goal

pub returns : goal.returns
returns g c = record { below_value = search rules; keeps_orders = keeps_orders (g.S.Space.meaning c.args.below) c.args.wish }
