mod Restated
