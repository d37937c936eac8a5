mod Amounts
