-- A view is the one at its piece, if its parts are.
use Rattle.driver.proofs.Transfers.{view-is}
use Rattle.driver.proofs.request.Request.transfer_view.Goals as goal

pub returns : goal.returns
returns c = search view-is
