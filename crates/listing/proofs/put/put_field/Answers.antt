-- `listing::put::put_field` meets its contract: the digits, then the byte. Assumes nothing.
use Rattle.listing.proofs.Decimal.{put_ended}
use Rattle.listing.proofs.put.put_field.Goals as goal

pub returns : goal.returns
returns c =
    let d = c.put_decimal-next.ensures in put_ended _ _ _ _ _ _ _ _ d.1 d.0
    c.put_byte.ensures
